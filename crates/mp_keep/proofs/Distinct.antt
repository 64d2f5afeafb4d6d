-- A list of paths without one of its slots.
use Rattle.std.proofs.Common.{◌≡◌, ℕ, zero, suc, ◌+◌, ◌<◌, ◌≤◌, ◌==◌, ◌&&◌, ◌||◌, Bool, true, false, not, List, [], ◌∷◌, ◌++◌, filter, length, get_or, take, replicate, cond, refl, sym, ap, ◌∙◌, arith}
use Rattle.std.proofs.lemmas.List.{get_or-take, take-replicate}
use Rattle.std.proofs.lemmas.List.Folds.{list_any_at}
use Rattle.mp_words.specs.declared.order.Order.{Order}
use Rattle.mp_words.specs.Facts.{IsOrder}
use Rattle.mp_words.specs.Order.{slots_of, next_order}
use Rattle.mp_core.specs.Status.{has, lists}
use Rattle.mp_keep.proofs.Finding.{same_is, is_same}
use Rattle.mp_keep.proofs.Statuses.{never}
use Rattle.mp_keep.proofs.Removals.{both_true, and_true}
use Rattle.mp_keep.proofs.Lists.{len_of, slots_back}

-- no number stands twice
abbrev pub differ : List ℕ → Bool
differ [] = true
differ (x ∷ xs) = not (has x xs) && differ xs

not_true : (b : Bool) → (b ≡ true → ⊥) → not b ≡ true
not_true true n = absurd (n refl)
not_true false n = refl

true_not : (b : Bool) → not b ≡ true → b ≡ true → ⊥
true_not true h e = never h
true_not false h e = never e

has_some : (x : ℕ) (xs : List ℕ) → has x xs ≡ true → (i : ℕ) × (i < length xs) × (get_or xs i 0 ≡ x)
has_some x [] h = never h
has_some x (y ∷ ys) h = by (y == x) refl h (λ m. has_some x ys m)
  where
    by : (b : Bool) → (y == x) ≡ b → (b || has x ys) ≡ true → (has x ys ≡ true → (i : ℕ) × (i < length ys) × (get_or ys i 0 ≡ x)) → (i : ℕ) × (i < suc (length ys)) × (get_or (y ∷ ys) i 0 ≡ x)
    by true e h rest = (0, omega arith, is_same y x e)
    by false e h rest = let r = rest h in let l = r.1 in (suc r.0, omega arith, r.2)

-- apart by place
abbrev Apart : List ℕ → Type 0
Apart xs = (i j : ℕ) → i < length xs → j < length xs → get_or xs i 0 ≡ get_or xs j 0 → i ≡ j

pub to_differ : (xs : List ℕ) → Apart xs → differ xs ≡ true
to_differ [] a = refl
to_differ (x ∷ xs) a = and_true (not (has x xs)) (differ xs) (not_true (has x xs) (λ h. clash (has_some x xs h))) (to_differ xs (λ i j l m e. let r = a (suc i) (suc j) (omega arith) (omega arith) e in omega arith))
  where
    clash : (i : ℕ) × (i < length xs) × (get_or xs i 0 ≡ x) → ⊥
    clash r = let l = r.1 in let e = a 0 (suc r.0) (omega arith) (omega arith) (sym r.2) in absurd (omega arith)

pub from_differ : (xs : List ℕ) → differ xs ≡ true → Apart xs
from_differ [] d i j l m e = absurd (omega arith)
from_differ (x ∷ xs) d zero zero l m e = refl
from_differ (x ∷ xs) d zero (suc j) l m e = absurd (true_not (has x xs) (both_true (not (has x xs)) (differ xs) d).0 (list_any_at (λ y. y == x) xs j 0 (omega arith) (same_is (get_or xs j 0) x (sym e))))
from_differ (x ∷ xs) d (suc i) zero l m e = absurd (true_not (has x xs) (both_true (not (has x xs)) (differ xs) d).0 (list_any_at (λ y. y == x) xs i 0 (omega arith) (same_is (get_or xs i 0) x e)))
from_differ (x ∷ xs) d (suc i) (suc j) l m e = ap suc (from_differ xs (both_true (not (has x xs)) (differ xs) d).1 i j (omega arith) (omega arith) e)

-- the slots but one
abbrev pub but : ℕ → List ℕ → List ℕ
but slot xs = filter (λ s. not (s == slot)) xs

pub has_but : (slot t : ℕ) (xs : List ℕ) → has t (but slot xs) ≡ cond (slot == t) false (has t xs)
has_but slot t [] = both (slot == t)
  where
    both : (b : Bool) → false ≡ cond b false false
    both true = refl
    both false = refl
has_but slot t (x ∷ xs) = by (x == slot) (slot == t) (x == t) refl refl refl (has_but slot t xs)
  where
    by : (a b c : Bool) → (x == slot) ≡ a → (slot == t) ≡ b → (x == t) ≡ c → has t (but slot xs) ≡ cond b false (has t xs) → has t (cond (not a) (x ∷ but slot xs) (but slot xs)) ≡ cond b false (c || has t xs)
    by true true c e f g h = h
    by true false true e f g h = never (sym f ∙ same_is slot t (sym (is_same x slot e) ∙ is_same x t g))
    by true false false e f g h = h
    by false true true e f g h = never (sym e ∙ same_is x slot (is_same x t g ∙ sym (is_same slot t f)))
    by false true false e f g h = ap (λ (b : Bool). b || has t (but slot xs)) g ∙ h
    by false false true e f g h = ap (λ (b : Bool). b || has t (but slot xs)) g
    by false false false e f g h = ap (λ (b : Bool). b || has t (but slot xs)) g ∙ h

-- a number that is left was there
left_had : (slot x : ℕ) (xs : List ℕ) → has x xs ≡ false → has x (but slot xs) ≡ false
left_had slot x xs h = has_but slot x xs ∙ by (slot == x) h
  where
    by : (b : Bool) → has x xs ≡ false → cond b false (has x xs) ≡ false
    by true h = refl
    by false h = h

not_false : (b : Bool) → not b ≡ true → b ≡ false
not_false true h = never h
not_false false h = refl

pub differ_but : (slot : ℕ) (xs : List ℕ) → differ xs ≡ true → differ (but slot xs) ≡ true
differ_but slot [] d = refl
differ_but slot (x ∷ xs) d =
    let both = both_true (not (has x xs)) (differ xs) d in
    by (x == slot) both.0 (differ_but slot xs both.1)
  where
    by : (b : Bool) → not (has x xs) ≡ true → differ (but slot xs) ≡ true → differ (cond (not b) (x ∷ but slot xs) (but slot xs)) ≡ true
    by true n h = h
    by false n h = and_true (not (has x (but slot xs))) (differ (but slot xs)) (ap not (left_had slot x xs (not_false (has x xs) n))) h

length_but : (slot : ℕ) (xs : List ℕ) → length (but slot xs) ≤ length xs
length_but slot [] = omega arith
length_but slot (x ∷ xs) = by (x == slot) (length_but slot xs)
  where
    by : (b : Bool) → length (but slot xs) ≤ length xs → length (cond (not b) (x ∷ but slot xs) (but slot xs)) ≤ suc (length xs)
    by true h = omega arith
    by false h = omega arith

padded_at : (ys : List ℕ) (k n i : ℕ) → length ys ≤ k → k ≤ length ys + n → i < length ys → get_or (take k (ys ++ replicate n 0)) i 0 ≡ get_or ys i 0
padded_at [] k n i l m at = absurd (omega arith)
padded_at (y ∷ ys) zero n i l m at = absurd (omega arith)
padded_at (y ∷ ys) (suc k) n zero l m at = refl
padded_at (y ∷ ys) (suc k) n (suc i) l m at = padded_at ys k n i (omega arith) (omega arith) (omega arith)

abbrev zeros : ℕ → List ℕ
zeros n = replicate n 0

zero_at : (n i : ℕ) → get_or (zeros n) i 0 ≡ 0
zero_at zero i = refl
zero_at (suc n) zero = refl
zero_at (suc n) (suc i) = zero_at n i

padded_past : (ys : List ℕ) (k n i : ℕ) → length ys ≤ k → k ≤ length ys + n → length ys ≤ i → get_or (take k (ys ++ replicate n 0)) i 0 ≡ 0
padded_past [] k n i l m at = ap (λ (xs : List ℕ). get_or xs i 0) (take-replicate k n 0 (omega arith)) ∙ zero_at k i
padded_past (y ∷ ys) zero n i l m at = absurd (omega arith)
padded_past (y ∷ ys) (suc k) n zero l m at = absurd (omega arith)
padded_past (y ∷ ys) (suc k) n (suc i) l m at = padded_past ys k n i (omega arith) (omega arith) (omega arith)

padded_length : (ys : List ℕ) (k n : ℕ) → length ys ≤ k → k ≤ length ys + n → length (take k (ys ++ replicate n 0)) ≡ k
padded_length [] k n l m = ap length (take-replicate k n 0 (omega arith)) ∙ many k
  where
    many : (k : ℕ) → length (zeros k) ≡ k
    many zero = refl
    many (suc k) = ap suc (many k)
padded_length (y ∷ ys) zero n l m = absurd (omega arith)
padded_length (y ∷ ys) (suc k) n l m = ap suc (padded_length ys k n (omega arith) (omega arith))

pub without_lawful : (o : Order) (slot : ℕ) → IsOrder o → IsOrder (next_order o o.policy (but slot (slots_of o)))
without_lawful o slot l =
    let len = len_of o l in
    let within = l.within in
    let less = length_but slot (slots_of o) in
    let apart : Apart (slots_of o) = λ i j a b e. l.distinct i j (omega arith) (omega arith) (sym (get_or-take o.len o.slots i 0 (omega arith)) ∙ e ∙ get_or-take o.len o.slots j 0 (omega arith)) in
    let left = from_differ (but slot (slots_of o)) (differ_but slot (slots_of o) (to_differ (slots_of o) apart)) in record {
      within = omega arith;
      places = padded_length (but slot (slots_of o)) 8 8 (omega arith) (omega arith);
      distinct = λ i j a b e. left i j a b (sym (padded_at (but slot (slots_of o)) 8 8 i (omega arith) (omega arith) a) ∙ e ∙ padded_at (but slot (slots_of o)) 8 8 j (omega arith) (omega arith) b);
      past = λ i at. padded_past (but slot (slots_of o)) 8 8 i (omega arith) (omega arith) at;
    }

pub lists_without : (o : Order) (slot t : ℕ) → IsOrder o → lists t (next_order o o.policy (but slot (slots_of o))) ≡ cond (slot == t) false (lists t o)
lists_without o slot t l =
    let len = len_of o l in
    let within = l.within in
    let less = length_but slot (slots_of o) in
    ap (has t) (slots_back (but slot (slots_of o)) (replicate 8 0) 8 (omega arith)) ∙ has_but slot t (slots_of o)
