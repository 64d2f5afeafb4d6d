-- The last places of an order's word, behind one more.
use Rattle.std.proofs.Common.{◌≡◌, ℕ, ◌+◌, ◌*◌, ◌/◌, ◌%◌, ◌^◌, ◌<◌, ◌==◌, Bool, true, false, ◌&&◌, ◌||◌, ◌≢◌, None, Some, List, [], ◌∷◌, bit_and, bit_or, refl, sym, ap, ◌∙◌, arith, if◌then◌else◌, w32}
use Rattle.std.specs.List.{list_any}
use Rattle.std.specs.Int.{bit_at}
use Rattle.std.proofs.lemmas.Bool.Decides.{nat_tests}
use Rattle.std.proofs.lemmas.Nat.Bits.{shr_and_one, bit_at_set_same, bit_at_set_other, bit_at-zero}
use Rattle.mp_words.specs.declared.later.Later.{Later}
use Rattle.mp_words.specs.OrderWord.{is_disordered, listed_count, are_empty, listed_in_order}
use Rattle.mp_words.specs.Later.{Tells}

is_same : (a b : ℕ) → (a == b) ≡ true → a ≡ b
is_same a b e = grind (arith, nat_tests)

is_other : (a b : ℕ) → (a == b) ≡ false → a ≢ b
is_other a b e = grind (arith, nat_tests)

tests_other : (a b : ℕ) → a ≢ b → (a == b) ≡ false
tests_other a b n = grind (arith, nat_tests)

tests_more : (n : ℕ) → false ≡ (n + 1 == 0)
tests_more n = sym (tests_other (n + 1) 0 (omega arith))

pub empty_is : (ps : List ℕ) → are_empty ps ≡ (listed_count ps == 0)
empty_is [] = refl
empty_is (p ∷ ps) = here (p == 15) (empty_is ps)
  where
    here : (b : Bool) → are_empty ps ≡ (listed_count ps == 0) → (b && are_empty ps) ≡ ((if b then listed_count ps else listed_count ps + 1) == 0)
    here true e = e
    here false e = tests_more (listed_count ps)

pub behind_none : (later : Later) (p : ℕ) (ps : List ℕ) → p ≡ 15 → later.len ≡ 0 → Tells later ps → Tells later (p ∷ ps)
behind_none later p ps e z t = record { ordered = ordered; len = len; marks = marks }
  where
    empty : are_empty ps ≡ true
    empty = empty_is ps ∙ ap (λ n. n == 0) (sym t.len ∙ z)

    is : (p == 15) ≡ true
    is = rw e refl

    ordered : is_disordered (p ∷ ps) ≡ false
    ordered = rw is (rw empty t.ordered)

    len : later.len ≡ listed_count (p ∷ ps)
    len = rw is t.len

    marks : (slot : ℕ) → slot < 15 → (bit_at later.marks slot == 1) ≡ list_any (λ q. q == slot) (p ∷ ps)
    marks slot l = rw (tests_other p slot (omega arith)) (t.marks slot l)

pub behind_some : (later : Later) (p : ℕ) (ps : List ℕ) → p ≡ 15 → later.len ≢ 0 → Tells later ps → is_disordered (p ∷ ps) ≡ true
behind_some later p ps e z t = rw is (rw empty refl)
  where
    empty : are_empty ps ≡ false
    empty = empty_is ps ∙ ap (λ n. n == 0) (sym t.len) ∙ tests_other later.len 0 z

    is : (p == 15) ≡ true
    is = rw e refl

pub behind_new : (later : Later) (p : ℕ) (ps : List ℕ) → p < 16 → p ≢ 15 → bit_and (later.marks / 2 ^ p) 1 ≢ 1 → Tells later ps → Tells (record { marks = bit_or later.marks (1 * 2 ^ p % 2 ^ 32); len = later.len + 1 }) (p ∷ ps)
behind_new later p ps within n unmarked t = record { ordered = ordered; len = len; marks = marks }
  where
    is : (p == 15) ≡ false
    is = tests_other p 15 n

    free : (bit_at later.marks p == 1) ≡ false
    free = tests_other (bit_at later.marks p) 1 (λ e. unmarked (shr_and_one later.marks p ∙ e))

    new : list_any (λ q. q == p) ps ≡ false
    new = sym (t.marks p (omega (arith, within))) ∙ free

    ordered : is_disordered (p ∷ ps) ≡ false
    ordered = rw is (rw new t.ordered)

    len : later.len + 1 ≡ listed_count (p ∷ ps)
    len = rw is (ap (λ n. n + 1) t.len)

    mark : (slot : ℕ) (b : Bool) → slot < 15 → (p == slot) ≡ b → (bit_at (bit_or later.marks (1 * 2 ^ p % 2 ^ 32)) slot == 1) ≡ (b || list_any (λ q. q == slot) ps)
    mark slot true l e = let s : p ≡ slot = is_same p slot e in rw (sym s) (rw (bit_at_set_same w32 later.marks p (omega (arith, within))) refl)
    mark slot false l e = rw (bit_at_set_other w32 later.marks p (omega (arith, within)) slot (λ s. is_other p slot e (sym s))) (t.marks slot l)

    marks : (slot : ℕ) → slot < 15 → (bit_at (bit_or later.marks (1 * 2 ^ p % 2 ^ 32)) slot == 1) ≡ list_any (λ q. q == slot) (p ∷ ps)
    marks slot l = mark slot (p == slot) l refl

pub nothing : Tells (record { marks = 0; len = 0 }) []
nothing = record { ordered = refl; len = refl; marks = λ slot l. rw (none slot) refl }
  where
    none : (slot : ℕ) → bit_at 0 slot ≡ 0
    none slot = bit_at-zero slot

or_true : (b : Bool) → (b || true) ≡ true
or_true true = refl
or_true false = refl

-- places stay out of order behind one more
pub further : (p : ℕ) (ps : List ℕ) → is_disordered ps ≡ true → is_disordered (p ∷ ps) ≡ true
further p ps e = rw e (or_true _)

pub no_more : (ps : List ℕ) → is_disordered ps ≡ true → listed_in_order ps ≡ None
no_more ps e = rw e refl

pub in_order : (later : Later) (ps : List ℕ) → Tells later ps → listed_in_order ps ≡ Some later.len
in_order later ps t = rw t.ordered (ap Some (sym t.len))
