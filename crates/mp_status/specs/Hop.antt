-- The attempts of one hop: those that a request makes on one path.
use Rattle.std.specs.Prelude.{◌≡◌, ℕ, ◌+◌, ◌-◌, ◌≤◌, Bool, true, false, not, List, [], ◌∷◌, ◌++◌, map, length, unwrap_or, None, if◌then◌else◌}
use Rattle.std.specs.List.{enumerate_from, range_with_len, last_or, list_all}
use Rattle.mp_status.specs.declared.class.Class.{Class}
use Rattle.mp_status.specs.Disposition.{disposition_of, is_retry}

-- The items through the first that passes the test, or all of them where none does.
abbrev pub through_first : {X : Type 0} → (X → Bool) → List X → List X
through_first p [] = []
through_first p (x ∷ xs) = if p x then x ∷ [] else x ∷ through_first p xs

-- The status is retried on the same path; it stands behind the number of retries that were made.
abbrev pub is_retried : ℕ × ℕ → Bool
is_retried retried = is_retry (disposition_of retried.1 retried.0)

-- The status ends the hop; it stands behind the number of retries that were made.
abbrev pub ends_hop : ℕ × ℕ → Bool
ends_hop retried = not (is_retried retried)

-- The statuses of a hop behind the attempts that were retried, of which there are so many.
abbrev pub statuses_behind : (ℕ → ℕ) → ℕ → ℕ → List ℕ
statuses_behind status_at attempt retries =
    map (λ retried. retried.1) (through_first ends_hop (enumerate_from retries (map status_at (range_with_len (attempt + retries) (6 - retries)))))

-- The statuses of a hop from an attempt on: of the next six attempts, those through the first that isn't retried.
abbrev pub hop_statuses : (ℕ → ℕ) → ℕ → List ℕ
hop_statuses status_at attempt =
    map (λ retried. retried.1) (through_first ends_hop (enumerate_from 0 (map status_at (range_with_len attempt 6))))

-- What the last status of a hop asks for.
abbrev pub class_of_hop : List ℕ → Class
class_of_hop statuses = disposition_of (unwrap_or (last_or None statuses) 0) (length statuses - 1)

-- These are the statuses of the next attempts, at most six; each but the last is retried, with 0, 1 and more retries
-- made before it, and the last isn't.
pub record IsHop (status_at : ℕ → ℕ) (attempt : ℕ) (statuses : List ℕ) : Type 0 where
  pub before : List ℕ
  pub last : ℕ
  pub parts : statuses ≡ before ++ last ∷ []
  pub few : length statuses ≤ 6
  pub next : statuses ≡ map status_at (range_with_len attempt (length statuses))
  pub retried : list_all is_retried (enumerate_from 0 before) ≡ true
  pub ends : is_retry (disposition_of last (length before)) ≡ false
