-- What a search along a list finds.
use Rattle.std.proofs.Common.{◌≡◌, ℕ, zero, suc, ◌<◌, ◌==◌, Bool, true, false, List, [], ◌∷◌, length, get_or, nat_lt, cond, Option, None, Some, is_some, refl, ap, ◌∙◌, arith}
use Rattle.std.proofs.lemmas.Bool.Decides.{nat_tests}
use Rattle.std.specs.List.{position_or_len, position, find}

first_is : {X : Type 0} (p : X → Bool) (xs : List X) (i : ℕ) (d : X) → i < length xs → ((k : ℕ) → k < i → p (get_or xs k d) ≡ false) → p (get_or xs i d) ≡ true → position_or_len p xs ≡ i
first_is p [] i d l none is = absurd (omega arith)
first_is p (x ∷ xs) zero d l none is = rw is refl
first_is p (x ∷ xs) (suc i) d l none is =
    let r = first_is p xs i d (omega arith) (λ k m. none (suc k) (omega arith)) is in
    rw (none 0 (omega arith)) (omega arith)

none_is : {X : Type 0} (p : X → Bool) (xs : List X) (d : X) → ((k : ℕ) → k < length xs → p (get_or xs k d) ≡ false) → position_or_len p xs ≡ length xs
none_is p [] d none = refl
none_is p (x ∷ xs) d none =
    let r = none_is p xs d (λ k m. none (suc k) (omega arith)) in
    rw (none 0 (omega arith)) (omega arith)

pub below : (a b : ℕ) → a < b → nat_lt a b ≡ true
below a b l = grind (arith, nat_tests)

same : (a : ℕ) → nat_lt a a ≡ false
same a = grind (arith, nat_tests)

place_by : ℕ → ℕ → Option ℕ
place_by a n = cond (nat_lt a n) (Some a) None

pub position_hit : {X : Type 0} (p : X → Bool) (xs : List X) (i : ℕ) (d : X) → i < length xs → ((k : ℕ) → k < i → p (get_or xs k d) ≡ false) → p (get_or xs i d) ≡ true → position p xs ≡ Some i
position_hit p xs i d l none is =
    ap (λ a. cond (nat_lt a (length xs)) (Some a) None) (first_is p xs i d l none is)
    ∙ ap (λ (b : Bool). cond b (Some i) None) (below i (length xs) l)

pub position_miss : {X : Type 0} (p : X → Bool) (xs : List X) (d : X) → ((k : ℕ) → k < length xs → p (get_or xs k d) ≡ false) → position p xs ≡ None
position_miss p xs d none =
    ap (λ a. cond (nat_lt a (length xs)) (Some a) None) (none_is p xs d none)
    ∙ ap (λ (b : Bool). cond b (Some (length xs)) None) (same (length xs))

pub find_hit : {X : Type 0} (p : X → Bool) (xs : List X) (i : ℕ) (d : X) → i < length xs → p (get_or xs i d) ≡ true → is_some (find p xs) ≡ true
find_hit p [] i d l is = absurd (omega arith)
find_hit p (x ∷ xs) zero d l is = rw is refl
find_hit p (x ∷ xs) (suc i) d l is = either (p x) (find_hit p xs i d (omega arith) is)
  where
    either : (b : Bool) → is_some (find p xs) ≡ true → is_some (cond b (Some x) (find p xs)) ≡ true
    either true h = refl
    either false h = h

pub find_miss : {X : Type 0} (p : X → Bool) (xs : List X) (d : X) → ((k : ℕ) → k < length xs → p (get_or xs k d) ≡ false) → is_some (find p xs) ≡ false
find_miss p [] d none = refl
find_miss p (x ∷ xs) d none = rw (none 0 (omega arith)) (find_miss p xs d (λ k m. none (suc k) (omega arith)))

pub same_is : (a b : ℕ) → a ≡ b → (a == b) ≡ true
same_is a b e = grind (arith, nat_tests)

pub is_same : (a b : ℕ) → (a == b) ≡ true → a ≡ b
is_same a b e = grind (arith, nat_tests)

pub other_is : (a b : ℕ) → (a ≡ b → ⊥) → (a == b) ≡ false
other_is a b n = cases (a == b) refl
  where
    cases : (c : Bool) → (a == b) ≡ c → (a == b) ≡ false
    cases true e = absurd (n (is_same a b e))
    cases false e = e

pub position_below : {X : Type 0} (p : X → Bool) (xs : List X) (i : ℕ) (d : X) → i < length xs → p (get_or xs i d) ≡ true → position_or_len p xs < length xs
position_below p [] i d l h = absurd (omega arith)
position_below p (x ∷ xs) zero d l h = rw h (omega arith)
position_below p (x ∷ xs) (suc i) d l h = by (p x) refl (position_below p xs i d (omega arith) h)
  where
    by : (b : Bool) → p x ≡ b → position_or_len p xs < length xs → position_or_len p (x ∷ xs) < length (x ∷ xs)
    by true e m = rw e (omega arith)
    by false e m = rw e (omega arith)
