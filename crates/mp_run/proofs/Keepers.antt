-- The first item that passes a test.
use Rattle.std.proofs.Common.{[], ◌≡◌, ℕ, zero, suc, ◌<◌, ◌≤◌, Bool, true, false, List, ◌∷◌, length, take, get_or, inl, inr, Option, Some, None, refl, sym, ap, ◌∙◌, arith, nat_lt}
use Rattle.std.specs.Prelude.{position, is_none}
use Rattle.std.specs.List.{list_any, position_or_len}
use Rattle.std.proofs.lemmas.Bool.{cases_Bool}
use Rattle.std.proofs.lemmas.Bool.Decides.{nat_tests}
use Rattle.std.proofs.lemmas.List.{take_all}
use Rattle.mp_run.proofs.ByNumber.{or_false}

at_first : {X : Type 0} (test : X → Bool) (xs : List X) (place : ℕ) (x : X) → place < length xs → list_any test (take place xs) ≡ false → x ≡ get_or xs place x → test x ≡ true → position_or_len test xs ≡ place
at_first test [] place x lt none is passes = absurd (omega arith)
at_first test (y ∷ xs) zero x lt none is passes = let e : test y ≡ true = ap test (sym is) ∙ passes in rw e refl
at_first test (y ∷ xs) (suc place) x lt none is passes =
    let parts = or_false (test y) (list_any test (take place xs)) none in
    let more = at_first test xs place x (omega arith) parts.1 is passes in
    rw parts.0 (omega (arith, more))

nowhere : {X : Type 0} (test : X → Bool) (xs : List X) → list_any test xs ≡ false → position_or_len test xs ≡ length xs
nowhere test [] none = refl
nowhere test (y ∷ xs) none =
    let parts = or_false (test y) (list_any test xs) none in
    let more = nowhere test xs parts.1 in
    rw parts.0 (omega (arith, more))

below : (a b : ℕ) → a < b → nat_lt a b ≡ true
below a b lt = grind (arith, nat_tests)

past : (a b : ℕ) → b ≤ a → nat_lt a b ≡ false
past a b le = grind (arith, nat_tests)

pub first_at : {X : Type 0} (test : X → Bool) (xs : List X) (place : ℕ) (x : X) → place < length xs → list_any test (take place xs) ≡ false → x ≡ get_or xs place x → test x ≡ true → Some place ≡ position test xs
first_at test xs place x lt none is passes =
    let first : position_or_len test xs ≡ place = at_first test xs place x lt none is passes in
    rw (first, below place (length xs) lt) refl

pub first_none : {X : Type 0} (test : X → Bool) (xs : List X) (n : ℕ) → length xs ≤ n → list_any test (take n xs) ≡ false → None ≡ position test xs
first_none test xs n le none =
    let all : list_any test xs ≡ false = ap (list_any test) (sym (take_all n xs le)) ∙ none in
    let nobody : position_or_len test xs ≡ length xs = nowhere test xs all in
    rw (nobody, past (length xs) (length xs) (omega arith)) refl

-- ---- which lanes have none

-- the lanes that have none are the spent ones
abbrev AreSpent : List (Option ℕ) → List Bool → Type 0
AreSpent lefts spent = (lane : ℕ) → is_none (get_or lefts lane (Some 0)) ≡ get_or spent lane false

here : {X : Type 0} (test : X → Bool) (x : X) (xs : List X) → test x ≡ true → position_or_len test (x ∷ xs) ≡ 0
here test x xs passes = rw passes refl

later : {X : Type 0} (test : X → Bool) (x : X) (xs : List X) → test x ≡ false → position_or_len test (x ∷ xs) ≡ suc (position_or_len test xs)
later test x xs fails = rw fails (omega arith)

found : (lefts : List (Option ℕ)) (spent : List Bool) → AreSpent lefts spent → position_or_len is_none lefts < length lefts
    → (position_or_len (λ s. s) spent ≡ position_or_len is_none lefts) × (position_or_len (λ s. s) spent < length spent)
found [] spent are lt = absurd (omega arith)
found (left ∷ lefts) [] are lt =
    let more = found lefts [] (λ lane. are (suc lane)) (omega (arith, later is_none left lefts (are zero), lt)) in
    absurd (omega (arith, more.1))
found (left ∷ lefts) (s ∷ spent) are lt =
    let same : is_none left ≡ s = are zero in
    elim (cases_Bool s) [
      | inl on ↦ (omega (arith, here is_none left lefts (same ∙ on), here (λ (b : Bool). b) s spent on), omega (arith, here (λ (b : Bool). b) s spent on))
      | inr off ↦ let more = found lefts spent (λ lane. are (suc lane)) (omega (arith, later is_none left lefts (same ∙ off), lt)) in
          (omega (arith, more.0, later is_none left lefts (same ∙ off), later (λ (b : Bool). b) s spent off), omega (arith, more.1, later (λ (b : Bool). b) s spent off))
    ]

absent : (lefts : List (Option ℕ)) (spent : List Bool) → AreSpent lefts spent → length lefts ≤ position_or_len is_none lefts → length spent ≤ position_or_len (λ s. s) spent
absent lefts [] are ge = omega arith
absent [] (s ∷ spent) are ge = omega (arith, absent [] spent (λ lane. are (suc lane)) (omega arith), later (λ (b : Bool). b) s spent (sym (are zero)))
absent (left ∷ lefts) (s ∷ spent) are ge =
    let same : is_none left ≡ s = are zero in
    elim (cases_Bool s) [
      | inl on ↦ absurd (omega (arith, ge, here is_none left lefts (same ∙ on)))
      | inr off ↦ omega (arith, absent lefts spent (λ lane. are (suc lane)) (omega (arith, ge, later is_none left lefts (same ∙ off))), later (λ (b : Bool). b) s spent off)
    ]

pub same_first : (lefts : List (Option ℕ)) (spent : List Bool) → ((lane : ℕ) → is_none (get_or lefts lane (Some 0)) ≡ get_or spent lane false) → position is_none lefts ≡ position (λ s. s) spent
same_first lefts spent are =
    elim (cases_Bool (nat_lt (position_or_len is_none lefts) (length lefts))) [
      | inl on ↦ let both = found lefts spent are (grind (arith, nat_tests, on)) in
          let on2 : nat_lt (position_or_len (λ s. s) spent) (length spent) ≡ true = below (position_or_len (λ s. s) spent) (length spent) both.1 in
          rw (on, on2) (ap (λ n. Some n) (sym both.0))
      | inr off ↦ let ge = absent lefts spent are (grind (arith, nat_tests, off)) in
          let off2 : nat_lt (position_or_len (λ s. s) spent) (length spent) ≡ false = past (position_or_len (λ s. s) spent) (length spent) ge in
          rw (off, off2) refl
    ]
