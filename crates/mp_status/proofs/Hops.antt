-- A hop is a run of attempts of which all but the last are retried.
use Rattle.std.specs.Prelude.{◌≡◌, ℕ, zero, suc, ◌+◌, ◌≤◌, Bool, true, false, List, [], ◌∷◌, ◌++◌, map, length, not, refl, ◌==◌}
use Rattle.std.specs.List.{enumerate_from, range_with_len, list_all}
use Rattle.std.proofs.Common.{arith, ap, sym, ◌∙◌}
use Rattle.mp_status.specs.Disposition.{disposition_of, is_retry, must_not_retry}
use Rattle.mp_status.specs.Statuses.{success}
use Rattle.mp_status.specs.Hop.{through_first, is_retried, ends_hop, hop_statuses, IsHop}

-- the statuses of the rest of a hop, behind so many retries, from an attempt on
pub record RestOfHop (status_at : ℕ → ℕ) (retries attempt most : ℕ) (rest : List ℕ) : Type 0 where
  pub before : List ℕ
  pub last : ℕ
  pub parts : rest ≡ before ++ last ∷ []
  pub few : length rest ≤ most
  pub next : rest ≡ map status_at (range_with_len attempt (length rest))
  pub retried : list_all is_retried (enumerate_from retries before) ≡ true
  pub ends : is_retry (disposition_of last (retries + length before)) ≡ false

-- after five retries nothing is retried
never_sixth : (status : ℕ) → is_retry (disposition_of status 5) ≡ false
never_sixth status = by (status == success) (must_not_retry status) refl refl
  where
    by : (z m : Bool) → (status == success) ≡ z → must_not_retry status ≡ m → is_retry (disposition_of status 5) ≡ false
    by true m a b = rw a refl
    by false true a b = rw a (rw b refl)
    by false false a b = rw a (rw b refl)

turned : (b : Bool) → not b ≡ true → b ≡ false
turned true e = sym e
turned false e = refl

turned_back : (b : Bool) → not b ≡ false → b ≡ true
turned_back true e = refl
turned_back false e = sym e

-- one attempt that ends the hop
alone : (status_at : ℕ → ℕ) (retries attempt most : ℕ) → 1 ≤ most → is_retry (disposition_of (status_at attempt) retries) ≡ false
    → RestOfHop status_at retries attempt most (status_at attempt ∷ [])
alone status_at retries attempt most one ends = let none : retries + 0 ≡ retries = omega arith in record {
  before = [];
  last = status_at attempt;
  parts = refl;
  few = one;
  next = refl;
  retried = refl;
  ends = ap (λ n. is_retry (disposition_of (status_at attempt) n)) none ∙ ends;
}

-- one attempt that is retried, before the others
behind : (status_at : ℕ → ℕ) (retries attempt most : ℕ) (rest : List ℕ) → is_retried (retries, status_at attempt) ≡ true → RestOfHop status_at (retries + 1) (attempt + 1) most rest
    → RestOfHop status_at retries attempt (suc most) (status_at attempt ∷ rest)
behind status_at retries attempt most rest again r = record {
  before = status_at attempt ∷ r.before;
  last = r.last;
  parts = ap (λ h. status_at attempt ∷ h) r.parts;
  few = let few = r.few in omega arith;
  next = ap (λ h. status_at attempt ∷ h) r.next;
  retried = rw again r.retried;
  ends = let same : retries + suc (length r.before) ≡ retries + 1 + length r.before = omega arith in
      ap (λ n. is_retry (disposition_of r.last n)) same ∙ r.ends;
}

pub rest_of_hop : (status_at : ℕ → ℕ) (retries attempt more : ℕ) → retries + more ≡ 5
    → RestOfHop status_at retries attempt (suc more) (map (λ r. r.1) (through_first ends_hop (enumerate_from retries (map status_at (range_with_len attempt (suc more))))))
rest_of_hop status_at retries attempt zero count = by (ends_hop (retries, status_at attempt)) refl
  where
    by : (e : Bool) → ends_hop (retries, status_at attempt) ≡ e
        → RestOfHop status_at retries attempt 1 (map (λ r. r.1) (through_first ends_hop (enumerate_from retries (status_at attempt ∷ []))))
    by true is = rw is (alone status_at retries attempt 1 (omega arith) (turned (is_retry (disposition_of (status_at attempt) retries)) is))
    by false is = let whole : retries ≡ 5 = omega arith in
        rw is (alone status_at retries attempt 1 (omega arith) (ap (λ n. is_retry (disposition_of (status_at attempt) n)) whole ∙ never_sixth (status_at attempt)))
rest_of_hop status_at retries attempt (suc more) count = by (ends_hop (retries, status_at attempt)) refl (rest_of_hop status_at (retries + 1) (attempt + 1) more (omega arith))
  where
    by : (e : Bool) → ends_hop (retries, status_at attempt) ≡ e
        → RestOfHop status_at (retries + 1) (attempt + 1) (suc more) (map (λ r. r.1) (through_first ends_hop (enumerate_from (retries + 1) (map status_at (range_with_len (attempt + 1) (suc more))))))
        → RestOfHop status_at retries attempt (suc (suc more)) (map (λ r. r.1) (through_first ends_hop (enumerate_from retries (map status_at (range_with_len attempt (suc (suc more)))))))
    by true is later = rw is (alone status_at retries attempt (suc (suc more)) (omega arith) (turned (is_retry (disposition_of (status_at attempt) retries)) is))
    by false is later = rw is (behind status_at retries attempt (suc more) _ (turned_back (is_retried (retries, status_at attempt)) is) later)

pub hop_is_retried : (status_at : ℕ → ℕ) (attempt : ℕ) → IsHop status_at attempt (hop_statuses status_at attempt)
hop_is_retried status_at attempt = let r = rest_of_hop status_at 0 attempt 5 refl in
    let none : 0 + length r.before ≡ length r.before = omega arith in record {
      before = r.before;
      last = r.last;
      parts = r.parts;
      few = r.few;
      next = r.next;
      retried = r.retried;
      ends = ap (λ n. is_retry (disposition_of r.last n)) (sym none) ∙ r.ends;
    }
