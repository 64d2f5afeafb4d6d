-- Lists that have the same items in whatever order.
use Rattle.std.proofs.Common.{◌≡◌, ℕ, Bool, suc, ◌+◌, ◌≤◌, true, false, ◌==◌, ◌&&◌, cond, List, [], ◌∷◌, filter, length, inl, inr, refl, sym, ap, ◌∙◌, arith}
use Rattle.std.specs.List.{count_by}
use Rattle.std.specs.Coded.{Coded}
use Rattle.std.proofs.lemmas.Bool.{cases_Bool}
use Rattle.std.proofs.lemmas.Bool.Decides.{nat_tests}
use Rattle.std.proofs.lemmas.List.Sums.{sum_by-append}
use base.Stored.{Gv, gnil, gnum, gcons}
use Rattle.mp_legal.specs.Gathering.{HaveSameItems}

abbrev if_so : Bool → ℕ
if_so b = cond b 1 0

-- whether two codes are the same
abbrev same_code : Gv → Gv → Bool
same_code gnil gnil = true
same_code gnil (gnum n) = false
same_code gnil (gcons a b) = false
same_code (gnum m) gnil = false
same_code (gnum m) (gnum n) = m == n
same_code (gnum m) (gcons a b) = false
same_code (gcons a b) gnil = false
same_code (gcons a b) (gnum n) = false
same_code (gcons a b) (gcons c d) = same_code a c && same_code b d

equal : (a b : ℕ) → (a == b) ≡ true → a ≡ b
equal a b on = grind (arith, nat_tests)

own : (a : ℕ) → (a == a) ≡ true
own a = grind (arith, nat_tests)

and_parts : (a b : Bool) → (a && b) ≡ true → (a ≡ true) × (b ≡ true)
and_parts true b e = (refl, e)
and_parts false b e = absurd cc

code_equal : (a b : Gv) → same_code a b ≡ true → a ≡ b
code_equal gnil gnil on = refl
code_equal gnil (gnum n) on = absurd cc
code_equal gnil (gcons a b) on = absurd cc
code_equal (gnum m) gnil on = absurd cc
code_equal (gnum m) (gnum n) on = ap gnum (equal m n on)
code_equal (gnum m) (gcons a b) on = absurd cc
code_equal (gcons a b) gnil on = absurd cc
code_equal (gcons a b) (gnum n) on = absurd cc
code_equal (gcons a b) (gcons c d) on =
    let parts = and_parts (same_code a c) (same_code b d) on in
    ap (λ (g : Gv). gcons g b) (code_equal a c parts.0) ∙ ap (gcons c) (code_equal b d parts.1)

code_own : (a : Gv) → same_code a a ≡ true
code_own gnil = refl
code_own (gnum m) = own m
code_own (gcons a b) = rw (code_own a) (code_own b)

-- the test of being this item
pub is_item : {X : Type 0} → Coded X → X → X → Bool
is_item c x y = same_code (c.code y) (c.code x)

pub item_own : {X : Type 0} (c : Coded X) (x : X) → is_item c x x ≡ true
unfolding is_item
item_own c x = code_own (c.code x)

pub item_equal : {X : Type 0} (c : Coded X) (x y : X) → is_item c x y ≡ true → y ≡ x
unfolding is_item
item_equal c x y on = c.inj y x (code_equal (c.code y) (c.code x) on)

pub count_cons : {X : Type 0} (p : X → Bool) (x : X) (xs : List X) → count_by p (x ∷ xs) ≡ cond (p x) 1 0 + count_by p xs
count_cons {X} p x xs = omega (arith, sum_by-append (λ (y : X). if_so (p y)) (x ∷ []) xs)

pub count_on : {X : Type 0} (p : X → Bool) (x : X) (xs : List X) → p x ≡ true → count_by p (x ∷ xs) ≡ suc (count_by p xs)
count_on p x xs on = let e : if_so (p x) ≡ 1 = rw on refl in omega (arith, count_cons p x xs, e)

pub count_off : {X : Type 0} (p : X → Bool) (x : X) (xs : List X) → p x ≡ false → count_by p (x ∷ xs) ≡ count_by p xs
count_off p x xs off = let e : if_so (p x) ≡ 0 = rw off refl in omega (arith, count_cons p x xs, e)

-- what passes both tests, counted where one was made first
pub count_filter : {X : Type 0} (p q : X → Bool) (xs : List X) → count_by p (filter q xs) ≡ count_by (λ x. q x && p x) xs
count_filter p q [] = refl
count_filter {X} p q (x ∷ xs) =
    elim (cases_Bool (q x)) [
      | inl on ↦ let kept : filter q (x ∷ xs) ≡ x ∷ filter q xs = rw on refl in
          let test : if_so (q x && p x) ≡ if_so (p x) = rw on refl in
          let lhs : count_by p (filter q (x ∷ xs)) ≡ count_by p (x ∷ filter q xs) = ap (count_by p) kept in
          omega (arith, lhs, count_cons p x (filter q xs), count_cons (λ (y : X). q y && p y) x xs, test, count_filter p q xs)
      | inr off ↦ let kept : filter q (x ∷ xs) ≡ filter q xs = rw off refl in
          let test : if_so (q x && p x) ≡ 0 = rw off refl in
          let lhs : count_by p (filter q (x ∷ xs)) ≡ count_by p (filter q xs) = ap (count_by p) kept in
          omega (arith, lhs, count_cons (λ (y : X). q y && p y) x xs, test, count_filter p q xs)
    ]

-- lists that have the same items have the same ones of those that pass a test
pub filters_same : {X : Type 0} (q : X → Bool) (xs ys : List X) → HaveSameItems xs ys → HaveSameItems (filter q xs) (filter q ys)
filters_same q xs ys same p = count_filter p q xs ∙ same (λ x. q x && p x) ∙ sym (count_filter p q ys)

count_all : {X : Type 0} (xs : List X) → count_by (λ _. true) xs ≡ length xs
count_all [] = refl
count_all {X} (x ∷ xs) = let more = count_all xs in omega (arith, count_cons (λ (y : X). true) x xs, more)

pub lengths_same : {X : Type 0} (xs ys : List X) → HaveSameItems xs ys → length xs ≡ length ys
lengths_same xs ys same = sym (count_all xs) ∙ same (λ _. true) ∙ count_all ys

-- two lists of at most one item are equal where they have the same items
pub small_same : {X : Type 0} (c : Coded X) (xs ys : List X) → HaveSameItems xs ys → length ys ≤ 1 → xs ≡ ys
small_same c [] [] same few = refl
small_same c [] (y ∷ ys) same few = absurd (omega (arith, lengths_same [] (y ∷ ys) same))
small_same c (x ∷ xs) [] same few = absurd (omega (arith, lengths_same (x ∷ xs) [] same))
small_same {X} c (x ∷ []) (y ∷ []) same few = ap (λ (z : X). z ∷ []) (item_equal c y x (on (is_item c y x) e))
  where
    on : (b : Bool) → if_so b ≡ 1 → b ≡ true
    on true e = refl
    on false e = absurd (omega (arith, e))

    e : if_so (is_item c y x) ≡ 1
    e = omega (arith, same (is_item c y), count_cons (is_item c y) x [], count_on (is_item c y) y [] (item_own c y))
small_same c (x ∷ z ∷ xs) (y ∷ []) same few = absurd (omega (arith, lengths_same (x ∷ z ∷ xs) (y ∷ []) same))
small_same c xs (y ∷ z ∷ ys) same few = absurd (omega (arith, few))
