-- A set of numbers, as marks and as the list of them.
use Rattle.std.proofs.Common.{inl, inr, ◌≡◌, ◌≢◌, ℕ, zero, suc, ◌+◌, ◌<◌, Bool, true, false, List, [], ◌∷◌, ◌++◌, length, get_or, set, refl, sym, ◌∙◌, zero-add, arith}
use Rattle.std.specs.Prelude.{◌||◌, ◌==◌, replicate}
use Rattle.std.proofs.lemmas.Bool.{cases_Bool}
use Rattle.std.proofs.lemmas.Bool.Decides.{nat_tests}
use Rattle.std.proofs.lemmas.List.{get_or-set_same, get_or-set_other}
use Rattle.mp_checks.specs.Marks.{has, HaveSame}
use Rattle.mp_script.specs.Requests.{numbers_from, numbers_of}
use Rattle.mp_script.proofs.Holding.{has_push}
use Rattle.mp_script.proofs.Steps.{or_false}

-- no mark before the first is set
none_before : (n k : ℕ) (marks : List Bool) → k < n → has (numbers_from n marks) k ≡ false
none_before n k [] lt = refl
none_before n k (true ∷ marks) lt =
    let other : (n == k) ≡ false = grind (arith, nat_tests) in
    rw other (none_before (suc n) k marks (omega (arith, lt)))
none_before n k (false ∷ marks) lt = none_before (suc n) k marks (omega (arith, lt))

has_from : (n k : ℕ) (marks : List Bool) → has (numbers_from n marks) (n + k) ≡ get_or marks k false
has_from n k [] = refl
has_from n zero (true ∷ marks) =
    let same : (n == n + 0) ≡ true = grind (arith, nat_tests) in
    rw same refl
has_from n zero (false ∷ marks) = none_before (suc n) (n + 0) marks (omega arith)
has_from n (suc k) (true ∷ marks) =
    let other : (n == n + suc k) ≡ false = grind (arith, nat_tests) in
    let next : n + suc k ≡ suc n + k = omega arith in
    let rest : has (numbers_from (suc n) marks) (n + suc k) ≡ get_or marks k false = rw next (has_from (suc n) k marks) in
    rw other rest
has_from n (suc k) (false ∷ marks) =
    let next : n + suc k ≡ suc n + k = omega arith in
    rw next (has_from (suc n) k marks)

-- the list has a number where its mark is set
pub has_mark : (marks : List Bool) (k : ℕ) → has (numbers_of marks) k ≡ get_or marks k false
unfolding numbers_of
has_mark marks k = rw zero-add at (has_from 0 k marks)

or_true : (b : Bool) → (b || true) ≡ true
or_true true = refl
or_true false = refl

mark_set : (marks : List Bool) (n k : ℕ) → n < length marks → get_or (set marks n true) k false ≡ (get_or marks k false || (n == k))
mark_set marks n k lt = elim (cases_Bool (n == k)) [
  | inl e ↦
      let same : k ≡ n = grind (arith, nat_tests) in
      rw (e, same, get_or-set_same marks n true false lt) (sym (or_true (get_or marks n false)))
  | inr e ↦
      let other : k ≢ n = grind (arith, nat_tests) in
      rw (e, get_or-set_other marks n k true false other) (or_false (get_or marks k false))
]

-- one mark more is one number more
pub marked_more : (marks : List Bool) (n : ℕ) → n < length marks → HaveSame (numbers_of (set marks n true)) (numbers_of marks ++ n ∷ [])
marked_more marks n lt = λ k. has_mark (set marks n true) k ∙ mark_set marks n k lt ∙ sym (rw (has_push (numbers_of marks) n k, has_mark marks k) refl)

none_from : (n k : ℕ) → numbers_from n (replicate k false) ≡ []
none_from n zero = refl
none_from n (suc k) = none_from (suc n) k

pub none_marked : (k : ℕ) → numbers_of (replicate k false) ≡ []
unfolding numbers_of
none_marked k = none_from 0 k
