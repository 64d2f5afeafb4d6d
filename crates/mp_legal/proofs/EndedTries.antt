-- The tries of a request whose last one has ended.
use Rattle.std.proofs.Common.{◌≡◌, ℕ, zero, suc, ◌≤◌, List, [], ◌∷◌, ◌++◌, length, map, take, replicate, Option, Some, None, option_map, refl, ap, ◌∙◌, sym, arith}
use Rattle.std.specs.List.{last_or}
use Rattle.mp_words.specs.declared.trying.Try.{Try}
use Rattle.mp_words.specs.declared.trying.Back.{Back}
use Rattle.mp_words.specs.declared.trying.Outcome.TheVariants as outcome
use Rattle.mp_words.specs.Request.{Tried, tried_of, ended_tries, map_last, outcome_of}
use Rattle.mp_words.proofs.Last.{last_or-map}
use Rattle.mp_submit.specs.Finishes.{six_of}
use Rattle.mp_legal.specs.PlainFinish.{ended_tries as plain_tries}

taken : (n : ℕ) (xs ys : List ℕ) → length xs ≤ n → take (length xs) (take n (xs ++ ys)) ≡ xs
taken n [] ys most = refl
taken zero (x ∷ xs) ys most = absurd (omega arith)
taken (suc n) (x ∷ xs) ys most = ap (λ zs. x ∷ zs) (taken n xs ys (omega arith))

-- the statuses stand at the first of the six places
pub six_taken : (statuses : List ℕ) → length statuses ≤ 6 → take (length statuses) (six_of statuses) ≡ statuses
six_taken statuses most = taken 6 statuses (replicate 6 0) most

-- what a run tells of the tries
pub told_tries : (six : List ℕ) (count : ℕ) (statuses : List ℕ) (way : Option Back) (tries : List Try) → take count six ≡ statuses → map tried_of (ended_tries six count way tries) ≡ plain_tries statuses way (map tried_of tries)
told_tries six count statuses way [] e = refl
told_tries six count statuses way (t ∷ []) e = λ i. record { end = t.end; statuses = e i; back = way } ∷ []
told_tries six count statuses way (t ∷ u ∷ tries) e = ap (λ (ts : List Tried). tried_of t ∷ ts) (told_tries six count statuses way (u ∷ tries) e)

pub last_changed : (f : Try → Try) (tries : List Try) → last_or None (map_last f tries) ≡ option_map f (last_or None tries)
last_changed f [] = refl
last_changed f (t ∷ []) = refl
last_changed f (t ∷ u ∷ []) = refl
last_changed f (t ∷ u ∷ v ∷ tries) = last_changed f (u ∷ v ∷ tries)

pub length_changed : (f : Try → Try) (tries : List Try) → length (map_last f tries) ≡ length tries
length_changed f [] = refl
length_changed f (t ∷ []) = refl
length_changed f (t ∷ u ∷ tries) = ap suc (length_changed f (u ∷ tries))

-- a request that was sent has a last try
pub sent_last : (tries : List Try) → outcome_of (last_or None (map tried_of tries)) ≡ outcome.Sent → (t : Try) × (last_or None tries ≡ Some t)
sent_last tries sent = by (last_or None tries) refl
  where
    by : (o : Option Try) → last_or None tries ≡ o → (t : Try) × (last_or None tries ≡ Some t)
    by None is = let e : outcome_of None ≡ outcome.Sent = ap (λ (o : Option Try). outcome_of (option_map tried_of o)) (sym is) ∙ ap outcome_of (sym (last_or-map tried_of tries)) ∙ sent in absurd cc
    by (Some t) is = (t, is)
