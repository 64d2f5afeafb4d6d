-- The next lists of paths.
use Rattle.std.proofs.Common.{◌≡◌, ℕ, zero, suc, ◌+◌, ◌<◌, ◌≤◌, ◌==◌, Bool, true, false, not, List, [], ◌∷◌, ◌++◌, length, filter, take, replicate, get_or, set, cond, if◌then◌else◌, refl, sym, ap, ◌∙◌, subst, arith}
use Rattle.std.proofs.Math.Seq.{take-suc}
use Rattle.std.proofs.lemmas.List.{take-replicate, append-nil}
use Rattle.std.proofs.lemmas.List.Elements.{filter-append}
use Rattle.mp_words.specs.declared.order.Order.{Order}
use Rattle.mp_words.specs.declared.row.Policy.{Policy}
use Rattle.mp_words.specs.Facts.{IsOrder}
use Rattle.mp_words.specs.Order.{slots_of, next_order}

pub took : (n : ℕ) (xs : List ℕ) → n ≤ length xs → length (take n xs) ≡ n
took zero xs le = refl
took (suc n) [] le = absurd (omega arith)
took (suc n) (x ∷ xs) le = ap suc (took n xs (omega arith))

-- a list whose places from the nth on are 0
pub padded : (n k : ℕ) (xs : List ℕ) → length xs ≤ k → ((i : ℕ) → n ≤ i → get_or xs i 0 ≡ 0) → take (length xs) (take n xs ++ replicate k 0) ≡ xs
padded n k [] le past = refl
padded zero zero (x ∷ xs) le past = absurd (omega arith)
padded zero (suc k) (x ∷ xs) le past = λ i. sym (past 0 (omega arith)) i ∷ padded zero k xs (omega arith) (λ j at. past (suc j) (omega arith)) i
padded (suc n) k (x ∷ xs) le past = ap (λ (ys : List ℕ). x ∷ ys) (padded n k xs (omega arith) (λ j at. past (suc j) (omega arith)))

-- the places of an order are its slots, padded
pub places_of : (o : Order) → IsOrder o → take 8 (slots_of o ++ replicate 8 0) ≡ o.slots
places_of o l =
    let places = l.places in
    ap (λ n. take n (take o.len o.slots ++ replicate 8 0)) (sym places) ∙ padded o.len 8 o.slots (omega arith) l.past

pub len_of : (o : Order) → IsOrder o → length (slots_of o) ≡ o.len
len_of o l = let places = l.places in let within = l.within in took o.len o.slots (omega arith)

-- a number more, in the places
pub padded_snoc : (ys : List ℕ) (s k i j : ℕ) → length ys < k → k ≤ length ys + i + 1 → k ≤ length ys + j → take k ((ys ++ s ∷ []) ++ replicate i 0) ≡ set (take k (ys ++ replicate j 0)) (length ys) s
padded_snoc [] s zero i j l a b = absurd (omega arith)
padded_snoc [] s (suc k) i zero l a b = absurd (omega arith)
padded_snoc [] s (suc k) i (suc j) l a b = λ t. s ∷ (take-replicate k i 0 (omega arith) ∙ sym (take-replicate k j 0 (omega arith))) t
padded_snoc (y ∷ ys) s zero i j l a b = absurd (omega arith)
padded_snoc (y ∷ ys) s (suc k) i j l a b = ap (λ (zs : List ℕ). y ∷ zs) (padded_snoc ys s k i j (omega arith) (omega arith) (omega arith))

pub length_snoc : (ys : List ℕ) (s : ℕ) → length (ys ++ s ∷ []) ≡ length ys + 1
length_snoc [] s = refl
length_snoc (y ∷ ys) s = let r = length_snoc ys s in ap suc r ∙ omega arith

-- the slots of an order that lists these
pub slots_back : (ys zs : List ℕ) (k : ℕ) → length ys ≤ k → take (length ys) (take k (ys ++ zs)) ≡ ys
slots_back [] zs k l = refl
slots_back (y ∷ ys) zs zero l = absurd (omega arith)
slots_back (y ∷ ys) zs (suc k) l = ap (λ (xs : List ℕ). y ∷ xs) (slots_back ys zs k (omega arith))

pub policy_is : (o : Order) (policy : Policy) → IsOrder o → record { version = o.version + 1; policy = policy; len = o.len; slots = o.slots } ≡ next_order o policy (slots_of o)
policy_is o policy l =
    λ i. record { version = o.version + 1; policy = policy; len = sym (len_of o l) i; slots = sym (places_of o l) i }

-- the order with a slot listed last
abbrev pub with_last : Order → ℕ → Order
with_last o slot = record { version = o.version + 1; policy = o.policy; len = o.len + 1; slots = set o.slots o.len slot }

pub last_is : (o : Order) (slot : ℕ) → IsOrder o → o.len < 8 → with_last o slot ≡ next_order o o.policy (slots_of o ++ slot ∷ [])
last_is o slot l room =
    let len : length (slots_of o) ≡ o.len = len_of o l in
    let many : length (slots_of o ++ slot ∷ []) ≡ o.len + 1 = length_snoc (slots_of o) slot ∙ ap (λ n. n + 1) len in
    let put : take 8 ((slots_of o ++ slot ∷ []) ++ replicate 8 0) ≡ set (take 8 (slots_of o ++ replicate 8 0)) (length (slots_of o)) slot = padded_snoc (slots_of o) slot 8 8 8 (omega arith) (omega arith) (omega arith) in
    let slots : take 8 ((slots_of o ++ slot ∷ []) ++ replicate 8 0) ≡ set o.slots o.len slot = put ∙ (λ i. set (places_of o l i) (len i) slot) in
    λ i. record { version = o.version + 1; policy = o.policy; len = sym many i; slots = sym slots i }

more : (ys : List ℕ) (x : ℕ) (b : Bool) (len : ℕ) (slots : List ℕ) → len ≡ length ys → slots ≡ take 8 (ys ++ replicate 8 0) → length ys < 8 → ((if b then len else len + 1) ≡ length (ys ++ cond (not b) (x ∷ []) [])) × ((if b then slots else set slots len x) ≡ take 8 ((ys ++ cond (not b) (x ∷ []) []) ++ replicate 8 0))
more ys x true len slots n s l = (n ∙ ap length (sym (append-nil ys)), s ∙ ap (λ (zs : List ℕ). take 8 (zs ++ replicate 8 0)) (sym (append-nil ys)))
more ys x false len slots n s l = (ap (λ k. k + 1) n ∙ sym (length_snoc ys x), (λ i. set (s i) (n i) x) ∙ sym (padded_snoc ys x 8 8 8 (omega arith) (omega arith) (omega arith)))

-- the slots but this one, among the first places
abbrev pub kept : ℕ → ℕ → List ℕ → List ℕ
kept slot n xs = filter (λ s. not (s == slot)) (take n xs)

kept_next : (slot n d : ℕ) (xs : List ℕ) → n < length xs → kept slot n xs ++ cond (not (get_or xs n d == slot)) (get_or xs n d ∷ []) [] ≡ kept slot (n + 1) xs
kept_next slot n d xs l =
    let e : suc n ≡ n + 1 = omega arith in
    sym (filter-append (λ s. not (s == slot)) (take n xs) (get_or xs n d ∷ [])) ∙ ap (filter (λ s. not (s == slot))) (sym (take-suc xs n d l)) ∙ ap (λ m. kept slot m xs) e

pub kept_more : (slot n d : ℕ) (xs : List ℕ) (len next : ℕ) (slots after : List ℕ) → n < length xs → n < 8 → len ≤ n
    → len ≡ length (kept slot n xs) → slots ≡ take 8 (kept slot n xs ++ replicate 8 0)
    → next ≡ (if get_or xs n d == slot then len else len + 1) → after ≡ (if get_or xs n d == slot then slots else set slots len (get_or xs n d))
    → (next ≡ length (kept slot (n + 1) xs)) × (next ≤ n + 1) × (after ≡ take 8 (kept slot (n + 1) xs ++ replicate 8 0))
kept_more slot n d xs len next slots after l m le is was e f =
    let r = more (kept slot n xs) (get_or xs n d) (get_or xs n d == slot) len slots is was (subst (λ k. k < 8) is (omega arith)) in
    let g = kept_next slot n d xs l in
    (e ∙ r.0 ∙ ap length g, subst (λ k. k ≤ n + 1) (sym e) (upto (get_or xs n d == slot)), f ∙ r.1 ∙ ap (λ (zs : List ℕ). take 8 (zs ++ replicate 8 0)) g)
  where
    upto : (b : Bool) → (if b then len else len + 1) ≤ n + 1
    upto true = omega arith
    upto false = omega arith

-- the order without a slot
pub without_is : (o : Order) (slot len : ℕ) (slots : List ℕ) → IsOrder o → len ≡ length (kept slot o.len o.slots) → slots ≡ take 8 (kept slot o.len o.slots ++ replicate 8 0) → record { version = o.version + 1; policy = o.policy; len = len; slots = slots } ≡ next_order o o.policy (filter (λ s. not (s == slot)) (slots_of o))
without_is o slot len slots l n s = λ i. record { version = o.version + 1; policy = o.policy; len = n i; slots = s i }
