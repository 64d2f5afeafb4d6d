-- An order's word gives the order back, and the order of a word gives the word back.
use Rattle.std.proofs.Common.{◌≡◌, ℕ, zero, suc, ◌+◌, ◌*◌, ◌/◌, ◌%◌, ◌^◌, ◌<◌, ◌≤◌, ◌≢◌, ◌==◌, nat_lt, Bool, true, false, not, ◌&&◌, ◌||◌, List, [], ◌∷◌, map, length, get_or, slice_index, Option, None, Some, IfSome, refl, sym, ap, subst, ◌∙◌, arith, if◌then◌else◌}
use Rattle.std.specs.List.{list_any}
use Rattle.std.proofs.lemmas.Bool.Decides.{nat_tests}
use Rattle.mp_words.specs.declared.row.Policy.{Policy}
use Rattle.mp_words.specs.declared.row.Policy.TheVariants.{Numa, RoundRobin, QueueDepth}
use Rattle.mp_words.specs.declared.order.Order.{Order}
use Rattle.mp_words.specs.Facts.{IsOrder}
use Rattle.mp_words.proofs.Behinds.{empty_is}
use Rattle.mp_words.specs.WordBits.{word_bits}
use Rattle.mp_words.specs.OrderWord.{policy_code, policy_of, place_digit, order_word, word_places, listed_count, are_empty, is_disordered, slot_or_zero, order_in, is_no_order, order_of_word, AreInOrder, IsOrderWord, FitsOrderWord}

-- these places with 15 from a place on
abbrev pub marks : ℕ → List ℕ → List ℕ
marks n [] = []
marks zero (s ∷ ss) = 15 ∷ marks zero ss
marks (suc n) (s ∷ ss) = s ∷ marks n ss

no_test : (i : ℕ) → nat_lt i 0 ≡ false
no_test i = grind (arith, nat_tests)

first_test : (n : ℕ) → nat_lt 0 (suc n) ≡ true
first_test n = grind (arith, nat_tests)

below_is : (i n : ℕ) → nat_lt i n ≡ true → i < n
below_is i n e = grind (arith, nat_tests)

above_is : (i n : ℕ) → nat_lt i n ≡ false → n ≤ i
above_is i n e = grind (arith, nat_tests)

test_below : (i n : ℕ) → i < n → nat_lt i n ≡ true
test_below i n e = grind (arith, nat_tests)

test_above : (i n : ℕ) → n ≤ i → nat_lt i n ≡ false
test_above i n e = grind (arith, nat_tests)

next_test : (i n : ℕ) → nat_lt (suc i) (suc n) ≡ nat_lt i n
next_test i n = here (nat_lt i n) refl
  where
    here : (b : Bool) → nat_lt i n ≡ b → nat_lt (suc i) (suc n) ≡ b
    here true e = test_below (suc i) (suc n) (let l : i < n = below_is i n e in omega arith)
    here false e = test_above (suc i) (suc n) (let l : n ≤ i = above_is i n e in omega arith)

test_other : (a b : ℕ) → a ≢ b → (a == b) ≡ false
test_other a b n = grind (arith, nat_tests)

is_same : (a b : ℕ) → (a == b) ≡ true → a ≡ b
is_same a b e = grind (arith, nat_tests)

pub marks_at : (n : ℕ) (ss : List ℕ) (i : ℕ) → i < length ss → get_or (marks n ss) i 15 ≡ (if nat_lt i n then get_or ss i 0 else 15)
marks_at n [] i l = absurd (omega arith)
marks_at zero (s ∷ ss) zero l = refl
marks_at zero (s ∷ ss) (suc i) l = rw (no_test (suc i)) (marks_at zero ss i (omega arith) ∙ rw (no_test i) refl)
marks_at (suc n) (s ∷ ss) zero l = rw (first_test n) refl
marks_at (suc n) (s ∷ ss) (suc i) l = rw (next_test i n) (marks_at n ss i (omega arith))

none_listed : (ss : List ℕ) → listed_count (marks zero ss) ≡ 0
none_listed [] = refl
none_listed (s ∷ ss) = none_listed ss

none_marked : (ss : List ℕ) → are_empty (marks zero ss) ≡ true
none_marked [] = refl
none_marked (s ∷ ss) = none_marked ss

none_disordered : (ss : List ℕ) → is_disordered (marks zero ss) ≡ false
none_disordered [] = refl
none_disordered (s ∷ ss) = rw (none_marked ss) (none_disordered ss)

pub marks_listed : (n : ℕ) (ss : List ℕ) → n ≤ length ss → ((i : ℕ) → i < n → get_or ss i 0 < 15) → listed_count (marks n ss) ≡ n
marks_listed zero ss l small = none_listed ss
marks_listed (suc n) [] l small = absurd (omega arith)
marks_listed (suc n) (s ∷ ss) l small =
    let e : (s == 15) ≡ false = test_other s 15 (let h : s < 15 = small 0 (omega arith) in omega arith) in
    let r : listed_count (marks n ss) ≡ n = marks_listed n ss (omega arith) (λ i m. small (suc i) (omega arith)) in
    rw e (omega arith)

pub marks_slots : (n : ℕ) (ss : List ℕ) → ((i : ℕ) → i < n → get_or ss i 0 < 15) → ((i : ℕ) → n ≤ i → get_or ss i 0 ≡ 0) → map slot_or_zero (marks n ss) ≡ ss
marks_slots n [] small past = refl
marks_slots zero (s ∷ ss) small past =
    let e : s ≡ 0 = past 0 (omega arith) in
    ap (λ rest. 0 ∷ rest) (marks_slots zero ss (λ i m. absurd (omega arith)) (λ i m. past (suc i) (omega arith))) ∙ ap (λ t. t ∷ ss) (sym e)
marks_slots (suc n) (s ∷ ss) small past =
    let e : (s == 15) ≡ false = test_other s 15 (let h : s < 15 = small 0 (omega arith) in omega arith) in
    rw e (ap (λ rest. s ∷ rest) (marks_slots n ss (λ i m. small (suc i) (omega arith)) (λ i m. past (suc i) (omega arith))))

fresh : (s n : ℕ) (ss : List ℕ) → s < 15 → n ≤ length ss → ((i : ℕ) → i < n → get_or ss i 0 ≢ s) → list_any (λ q. q == s) (marks n ss) ≡ false
fresh s n [] l m other = refl
fresh s zero (t ∷ ss) l m other = rw (test_other 15 s (omega arith)) (fresh s zero ss l (omega arith) (λ i h. absurd (omega arith)))
fresh s (suc n) (t ∷ ss) l m other = rw (test_other t s (other 0 (omega arith))) (fresh s n ss l (omega arith) (λ i h. other (suc i) (omega arith)))

pub marks_ordered : (n : ℕ) (ss : List ℕ) → n ≤ length ss → ((i : ℕ) → i < n → get_or ss i 0 < 15) → ((i j : ℕ) → i < n → j < n → get_or ss i 0 ≡ get_or ss j 0 → i ≡ j) → is_disordered (marks n ss) ≡ false
marks_ordered zero ss l small once = none_disordered ss
marks_ordered (suc n) [] l small once = absurd (omega arith)
marks_ordered (suc n) (s ∷ ss) l small once =
    let h : s < 15 = small 0 (omega arith) in
    let e : (s == 15) ≡ false = test_other s 15 (omega arith) in
    let f : list_any (λ q. q == s) (marks n ss) ≡ false = fresh s n ss h (omega arith) (λ i m same. zero_not i (once 0 (suc i) (omega arith) (omega arith) (sym same))) in
    rw e (rw f (marks_ordered n ss (omega arith) (λ i m. small (suc i) (omega arith)) (λ i j a b same. down i j (once (suc i) (suc j) (omega arith) (omega arith) same))))
  where
    zero_not : (i : ℕ) → 0 ≡ suc i → ⊥
    zero_not i e = omega arith

    down : (i j : ℕ) → suc i ≡ suc j → i ≡ j
    down i j e = omega arith

pub eight : (ps : List ℕ) → length ps ≡ 8 → get_or ps 0 15 ∷ get_or ps 1 15 ∷ get_or ps 2 15 ∷ get_or ps 3 15 ∷ get_or ps 4 15 ∷ get_or ps 5 15 ∷ get_or ps 6 15 ∷ get_or ps 7 15 ∷ [] ≡ ps
eight ([]) l = absurd (omega arith)
eight (a ∷ []) l = absurd (omega arith)
eight (a ∷ b ∷ []) l = absurd (omega arith)
eight (a ∷ b ∷ c ∷ []) l = absurd (omega arith)
eight (a ∷ b ∷ c ∷ d ∷ []) l = absurd (omega arith)
eight (a ∷ b ∷ c ∷ d ∷ e ∷ []) l = absurd (omega arith)
eight (a ∷ b ∷ c ∷ d ∷ e ∷ f ∷ []) l = absurd (omega arith)
eight (a ∷ b ∷ c ∷ d ∷ e ∷ f ∷ g ∷ []) l = absurd (omega arith)
eight (a ∷ b ∷ c ∷ d ∷ e ∷ f ∷ g ∷ h ∷ []) l = refl
eight (a ∷ b ∷ c ∷ d ∷ e ∷ f ∷ g ∷ h ∷ i ∷ ps) l = absurd (omega arith)

-- the sum of ten fields
abbrev pub ten : ℕ → ℕ → ℕ → ℕ → ℕ → ℕ → ℕ → ℕ → ℕ → ℕ → ℕ
ten v p a b c d e f g h = v + p * 2 ^ 30 + a * 2 ^ 32 + b * 2 ^ 36 + c * 2 ^ 40 + d * 2 ^ 44 + e * 2 ^ 48 + f * 2 ^ 52 + g * 2 ^ 56 + h * 2 ^ 60

record Fields (v p a b c d e f g h w : ℕ) : Type 0 where
  pub version : w % 2 ^ 30 ≡ v
  pub policy : word_bits 30 2 w ≡ p
  pub place0 : word_bits 32 4 w ≡ a
  pub place1 : word_bits 36 4 w ≡ b
  pub place2 : word_bits 40 4 w ≡ c
  pub place3 : word_bits 44 4 w ≡ d
  pub place4 : word_bits 48 4 w ≡ e
  pub place5 : word_bits 52 4 w ≡ f
  pub place6 : word_bits 56 4 w ≡ g
  pub place7 : word_bits 60 4 w ≡ h

fields : (v p a b c d e f g h : ℕ) → v < 2 ^ 30 → p < 3 → a < 16 → b < 16 → c < 16 → d < 16 → e < 16 → f < 16 → g < 16 → h < 16 → Fields v p a b c d e f g h (ten v p a b c d e f g h)
fields v p a b c d e f g h hv hp ha hb hc hd he hf hg hh = record {
  version = omega arith;
  policy = omega arith;
  place0 = omega arith;
  place1 = omega arith;
  place2 = omega arith;
  place3 = omega arith;
  place4 = omega arith;
  place5 = omega arith;
  place6 = omega arith;
  place7 = omega arith;
}

rebuilt : (w : ℕ) → w < 2 ^ 64 → ten (w % 2 ^ 30) (word_bits 30 2 w) (word_bits 32 4 w) (word_bits 36 4 w) (word_bits 40 4 w) (word_bits 44 4 w) (word_bits 48 4 w) (word_bits 52 4 w) (word_bits 56 4 w) (word_bits 60 4 w) ≡ w
rebuilt w l = omega arith

policy_below : (p : Policy) → policy_code p < 3
policy_below Numa = omega arith
policy_below RoundRobin = omega arith
policy_below QueueDepth = omega arith

policy_is : (p : Policy) → policy_of (policy_code p) ≡ p
policy_is Numa = refl
policy_is RoundRobin = refl
policy_is QueueDepth = refl

policy_code_of : (n : ℕ) → n < 3 → policy_code (policy_of n) ≡ n
policy_code_of zero l = refl
policy_code_of (suc zero) l = refl
policy_code_of (suc (suc zero)) l = refl
policy_code_of (suc (suc (suc n))) l = absurd (omega arith)

digit_below : (o : Order) (i : ℕ) → ((i : ℕ) → slice_index o.slots i < 15) → place_digit o i < 16
digit_below o i small = here (nat_lt i o.len)
  where
    here : (b : Bool) → (if b then slice_index o.slots i else 15) < 16
    here true = let h : slice_index o.slots i < 15 = small i in omega arith
    here false = omega arith

of_order : (o : Order) → o.version < 2 ^ 30 → ((i : ℕ) → slice_index o.slots i < 15) → Fields o.version (policy_code o.policy) (place_digit o 0) (place_digit o 1) (place_digit o 2) (place_digit o 3) (place_digit o 4) (place_digit o 5) (place_digit o 6) (place_digit o 7) (order_word o)
of_order o hv small = fields o.version (policy_code o.policy) (place_digit o 0) (place_digit o 1) (place_digit o 2) (place_digit o 3) (place_digit o 4) (place_digit o 5) (place_digit o 6) (place_digit o 7) hv (policy_below o.policy) (digit_below o 0 small) (digit_below o 1 small) (digit_below o 2 small) (digit_below o 3 small) (digit_below o 4 small) (digit_below o 5 small) (digit_below o 6 small) (digit_below o 7 small)

length_marks : (n : ℕ) (ss : List ℕ) → length (marks n ss) ≡ length ss
length_marks n [] = refl
length_marks zero (s ∷ ss) = ap suc (length_marks zero ss)
length_marks (suc n) (s ∷ ss) = ap suc (length_marks n ss)

digits_are : (o : Order) → length o.slots ≡ 8 → place_digit o 0 ∷ place_digit o 1 ∷ place_digit o 2 ∷ place_digit o 3 ∷ place_digit o 4 ∷ place_digit o 5 ∷ place_digit o 6 ∷ place_digit o 7 ∷ [] ≡ marks o.len o.slots
digits_are o l = rw (sym (marks_at o.len o.slots 0 (omega (arith, l)))) (rw (sym (marks_at o.len o.slots 1 (omega (arith, l)))) (rw (sym (marks_at o.len o.slots 2 (omega (arith, l)))) (rw (sym (marks_at o.len o.slots 3 (omega (arith, l)))) (rw (sym (marks_at o.len o.slots 4 (omega (arith, l)))) (rw (sym (marks_at o.len o.slots 5 (omega (arith, l)))) (rw (sym (marks_at o.len o.slots 6 (omega (arith, l)))) (rw (sym (marks_at o.len o.slots 7 (omega (arith, l)))) (eight (marks o.len o.slots) (length_marks o.len o.slots ∙ l)))))))))

places_are : (o : Order) (w : ℕ) → length o.slots ≡ 8 → Fields o.version (policy_code o.policy) (place_digit o 0) (place_digit o 1) (place_digit o 2) (place_digit o 3) (place_digit o 4) (place_digit o 5) (place_digit o 6) (place_digit o 7) w → word_places w ≡ marks o.len o.slots
places_are o w l f = rw f.place0 (rw f.place1 (rw f.place2 (rw f.place3 (rw f.place4 (rw f.place5 (rw f.place6 (rw f.place7 (digits_are o l))))))))

three_not : (n : ℕ) → n < 3 → (n == 3) ≡ false
three_not n l = grind (arith, nat_tests)

spelled : (o : Order) (w : ℕ) → w % 2 ^ 30 ≡ o.version → word_bits 30 2 w ≡ policy_code o.policy → listed_count (word_places w) ≡ o.len → map slot_or_zero (word_places w) ≡ o.slots → is_disordered (word_places w) ≡ false → order_of_word w ≡ Some o
spelled o w v p n s d = rw d (rw v (rw p (rw n (rw s (rw (policy_is o.policy) (rw (three_not (policy_code o.policy) (policy_below o.policy)) refl))))))

pub order_unpacks : (o : Order) → IsOrder o → o.version < 2 ^ 30 → ((i : ℕ) → slice_index o.slots i < 15) → order_of_word (order_word o) ≡ Some o
order_unpacks o is hv small =
    let f = of_order o hv small in
    let m : word_places (order_word o) ≡ marks o.len o.slots = places_are o (order_word o) is.places f in
    let l : o.len ≤ length o.slots = rw is.places is.within in
    spelled o (order_word o) f.version f.policy
    (ap listed_count m ∙ marks_listed o.len o.slots l (λ i h. small i))
    (ap (map slot_or_zero) m ∙ marks_slots o.len o.slots (λ i h. small i) is.past)
    (ap is_disordered m ∙ marks_ordered o.len o.slots l (λ i h. small i) is.distinct)

or_left : (a b : Bool) → (a || b) ≡ false → a ≡ false
or_left true b e = e
or_left false b e = refl

or_right : (a b : Bool) → (a || b) ≡ false → b ≡ false
or_right true b e = absurd (cc)
or_right false b e = e

not_not : (b : Bool) → not b ≡ false → b ≡ true
not_not true e = refl
not_not false e = absurd (cc)

empty_at : (ps : List ℕ) (k : ℕ) → are_empty ps ≡ true → get_or ps k 15 ≡ 15
empty_at [] k e = refl
empty_at (p ∷ ps) k e = here (p == 15) k refl e (λ j r. empty_at ps j r)
  where
    here : (b : Bool) (k : ℕ) → (p == 15) ≡ b → (b && are_empty ps) ≡ true → ((j : ℕ) → are_empty ps ≡ true → get_or ps j 15 ≡ 15) → get_or (p ∷ ps) k 15 ≡ 15
    here true zero is e rest = is_same p 15 is
    here true (suc k) is e rest = rest k e
    here false k is e rest = absurd (cc)

none_if_empty : (ps : List ℕ) → are_empty ps ≡ true → listed_count ps ≡ 0
none_if_empty ps e = is_same (listed_count ps) 0 (sym (empty_is ps) ∙ e)

more_test : (k n : ℕ) → nat_lt (suc k) (n + 1) ≡ nat_lt k n
more_test k n = let e : n + 1 ≡ suc n = omega arith in ap (λ m. nat_lt (suc k) m) e ∙ next_test k n

some_test : (n : ℕ) → nat_lt 0 (n + 1) ≡ true
some_test n = test_below 0 (n + 1) (omega arith)

pub at_place : (ps : List ℕ) (k : ℕ) → is_disordered ps ≡ false → k < length ps → (if nat_lt k (listed_count ps) then get_or (map slot_or_zero ps) k 0 else 15) ≡ get_or ps k 15
at_place [] k d l = absurd (omega arith)
at_place (p ∷ ps) k d l = here (p == 15) k refl d l (λ j r m. at_place ps j r m)
  where
    here : (b : Bool) (k : ℕ) → (p == 15) ≡ b → ((if b then not (are_empty ps) else list_any (λ q. q == p) ps) || is_disordered ps) ≡ false → k < suc (length ps) → ((j : ℕ) → is_disordered ps ≡ false → j < length ps → (if nat_lt j (listed_count ps) then get_or (map slot_or_zero ps) j 0 else 15) ≡ get_or ps j 15) → (if nat_lt k (if b then listed_count ps else listed_count ps + 1) then get_or ((if b then 0 else p) ∷ map slot_or_zero ps) k 0 else 15) ≡ get_or (p ∷ ps) k 15
    here true zero is d l rest =
        let e : are_empty ps ≡ true = not_not (are_empty ps) (or_left (not (are_empty ps)) (is_disordered ps) d) in
        rw (none_if_empty ps e) (sym (is_same p 15 is))
    here true (suc k) is d l rest =
        let e : are_empty ps ≡ true = not_not (are_empty ps) (or_left (not (are_empty ps)) (is_disordered ps) d) in
        rw (none_if_empty ps e) (rw (no_test (suc k)) (sym (empty_at ps k e)))
    here false zero is d l rest = rw (some_test (listed_count ps)) refl
    here false (suc k) is d l rest = rw (more_test k (listed_count ps)) (rest k (or_right (list_any (λ q. q == p) ps) (is_disordered ps) d) (omega arith))

below_three : (n : ℕ) → (n % 4 == 3) ≡ false → n % 4 < 3
below_three n e = grind (arith, nat_tests)

respelled : (w : ℕ) → w < 2 ^ 64 → is_no_order w ≡ false → order_word (order_in w) ≡ w
respelled w l e =
    let d : is_disordered (word_places w) ≡ false = or_right (word_bits 30 2 w == 3) (is_disordered (word_places w)) e in
    let t : (word_bits 30 2 w == 3) ≡ false = or_left (word_bits 30 2 w == 3) (is_disordered (word_places w)) e in
    let p : policy_code (policy_of (word_bits 30 2 w)) ≡ word_bits 30 2 w = policy_code_of (word_bits 30 2 w) (below_three (w / 2 ^ 30) t) in
    let e0 : place_digit (order_in w) 0 ≡ word_bits 32 4 w = at_place (word_places w) 0 d (omega arith) in
    let e1 : place_digit (order_in w) 1 ≡ word_bits 36 4 w = at_place (word_places w) 1 d (omega arith) in
    let e2 : place_digit (order_in w) 2 ≡ word_bits 40 4 w = at_place (word_places w) 2 d (omega arith) in
    let e3 : place_digit (order_in w) 3 ≡ word_bits 44 4 w = at_place (word_places w) 3 d (omega arith) in
    let e4 : place_digit (order_in w) 4 ≡ word_bits 48 4 w = at_place (word_places w) 4 d (omega arith) in
    let e5 : place_digit (order_in w) 5 ≡ word_bits 52 4 w = at_place (word_places w) 5 d (omega arith) in
    let e6 : place_digit (order_in w) 6 ≡ word_bits 56 4 w = at_place (word_places w) 6 d (omega arith) in
    let e7 : place_digit (order_in w) 7 ≡ word_bits 60 4 w = at_place (word_places w) 7 d (omega arith) in
    rw p (rw e0 (rw e1 (rw e2 (rw e3 (rw e4 (rw e5 (rw e6 (rw e7 (rebuilt w l)))))))))

abbrev order_or : Order → Option Order → Order
order_or d None = d
order_or d (Some o) = o

-- the order of a word is what its bits spell, and nothing speaks against it
record Spells (w : ℕ) (o : Order) : Type 0 where
  pub is : order_in w ≡ o
  pub lawful : is_no_order w ≡ false

spells : (w : ℕ) (o : Order) → order_of_word w ≡ Some o → Spells w o
spells w o h = here (is_no_order w) refl h
  where
    here : (b : Bool) → is_no_order w ≡ b → (if b then None else Some (order_in w)) ≡ Some o → Spells w o
    here true e h = absurd (cc)
    here false e h = record { is = ap (order_or o) h; lawful = e }

pub order_packs : (w : ℕ) (o : Order) → w < 2 ^ 64 → order_of_word w ≡ Some o → order_word o ≡ w
order_packs w o l h = let s = spells w o h in ap order_word (sym s.is) ∙ respelled w l s.lawful

listed_le : (ps : List ℕ) → listed_count ps ≤ length ps
listed_le [] = omega arith
listed_le (p ∷ ps) = here (p == 15) (listed_le ps)
  where
    here : (b : Bool) → listed_count ps ≤ length ps → (if b then listed_count ps else listed_count ps + 1) ≤ suc (length ps)
    here true l = omega arith
    here false l = omega arith

past_zero : (ps : List ℕ) (i : ℕ) → is_disordered ps ≡ false → listed_count ps ≤ i → get_or (map slot_or_zero ps) i 0 ≡ 0
past_zero [] i d l = refl
past_zero (p ∷ ps) i d l = here (p == 15) i d l (λ j r m. past_zero ps j r m)
  where
    here : (b : Bool) (i : ℕ) → ((if b then not (are_empty ps) else list_any (λ q. q == p) ps) || is_disordered ps) ≡ false → (if b then listed_count ps else listed_count ps + 1) ≤ i → ((j : ℕ) → is_disordered ps ≡ false → listed_count ps ≤ j → get_or (map slot_or_zero ps) j 0 ≡ 0) → get_or ((if b then 0 else p) ∷ map slot_or_zero ps) i 0 ≡ 0
    here true zero d l rest = refl
    here true (suc i) d l rest =
        let e : are_empty ps ≡ true = not_not (are_empty ps) (or_left (not (are_empty ps)) (is_disordered ps) d) in
        let z : listed_count ps ≡ 0 = none_if_empty ps e in
        rest i (or_right (not (are_empty ps)) (is_disordered ps) d) (omega arith)
    here false zero d l rest = absurd (omega arith)
    here false (suc i) d l rest = rest i (or_right (list_any (λ q. q == p) ps) (is_disordered ps) d) (omega arith)

is_other : (a b : ℕ) → (a == b) ≡ false → a ≢ b
is_other a b e = grind (arith, nat_tests)

fresh_in : (s : ℕ) (ps : List ℕ) (j : ℕ) → list_any (λ q. q == s) ps ≡ false → is_disordered ps ≡ false → j < listed_count ps → get_or (map slot_or_zero ps) j 0 ≢ s
fresh_in s [] j f d l = absurd (omega arith)
fresh_in s (p ∷ ps) j f d l = here (p == 15) j d l (or_right (p == s) (list_any (λ q. q == s) ps) f) (λ k g r m. fresh_in s ps k g r m)
  where
    here : (b : Bool) (j : ℕ) → ((if b then not (are_empty ps) else list_any (λ q. q == p) ps) || is_disordered ps) ≡ false → j < (if b then listed_count ps else listed_count ps + 1) → list_any (λ q. q == s) ps ≡ false → ((k : ℕ) → list_any (λ q. q == s) ps ≡ false → is_disordered ps ≡ false → k < listed_count ps → get_or (map slot_or_zero ps) k 0 ≢ s) → get_or ((if b then 0 else p) ∷ map slot_or_zero ps) j 0 ≢ s
    here true j d l g rest =
        let e : are_empty ps ≡ true = not_not (are_empty ps) (or_left (not (are_empty ps)) (is_disordered ps) d) in
        let z : listed_count ps ≡ 0 = none_if_empty ps e in
        absurd (omega arith)
    here false zero d l g rest = is_other p s (or_left (p == s) (list_any (λ q. q == s) ps) f)
    here false (suc j) d l g rest = rest j g (or_right (list_any (λ q. q == p) ps) (is_disordered ps) d) (omega arith)

distinct_in : (ps : List ℕ) (i j : ℕ) → is_disordered ps ≡ false → i < listed_count ps → j < listed_count ps → get_or (map slot_or_zero ps) i 0 ≡ get_or (map slot_or_zero ps) j 0 → i ≡ j
distinct_in [] i j d l m e = absurd (omega arith)
distinct_in (p ∷ ps) i j d l m e = here (p == 15) i j d l m e (λ i j r l m e. distinct_in ps i j r l m e)
  where
    here : (b : Bool) (i j : ℕ) → ((if b then not (are_empty ps) else list_any (λ q. q == p) ps) || is_disordered ps) ≡ false → i < (if b then listed_count ps else listed_count ps + 1) → j < (if b then listed_count ps else listed_count ps + 1) → get_or ((if b then 0 else p) ∷ map slot_or_zero ps) i 0 ≡ get_or ((if b then 0 else p) ∷ map slot_or_zero ps) j 0 → ((i j : ℕ) → is_disordered ps ≡ false → i < listed_count ps → j < listed_count ps → get_or (map slot_or_zero ps) i 0 ≡ get_or (map slot_or_zero ps) j 0 → i ≡ j) → i ≡ j
    here true i j d l m e rest =
        let f : are_empty ps ≡ true = not_not (are_empty ps) (or_left (not (are_empty ps)) (is_disordered ps) d) in
        let z : listed_count ps ≡ 0 = none_if_empty ps f in
        absurd (omega arith)
    here false zero zero d l m e rest = refl
    here false zero (suc j) d l m e rest = absurd (fresh_in p ps j (or_left (list_any (λ q. q == p) ps) (is_disordered ps) d) (or_right (list_any (λ q. q == p) ps) (is_disordered ps) d) (omega arith) (sym e))
    here false (suc i) zero d l m e rest = absurd (fresh_in p ps i (or_left (list_any (λ q. q == p) ps) (is_disordered ps) d) (or_right (list_any (λ q. q == p) ps) (is_disordered ps) d) (omega arith) e)
    here false (suc i) (suc j) d l m e rest = ap suc (rest i j (or_right (list_any (λ q. q == p) ps) (is_disordered ps) d) (omega arith) (omega arith) e)

is_order : (w : ℕ) → is_disordered (word_places w) ≡ false → IsOrder (order_in w)
is_order w d = record {
  within = listed_le (word_places w);
  places = refl;
  distinct = λ i j l m e. distinct_in (word_places w) i j d l m e;
  past = λ i l. past_zero (word_places w) i d l;
}

pub order_lawful : (w : ℕ) (o : Order) → order_of_word w ≡ Some o → IsOrder o
order_lawful w o h = let s = spells w o h in subst IsOrder s.is (is_order w (or_right (word_bits 30 2 w == 3) (is_disordered (word_places w)) s.lawful))

low_version : (w : ℕ) → w % 2 ^ 30 < 2 ^ 30
low_version w = omega arith

pub order_version : (w : ℕ) (o : Order) → order_of_word w ≡ Some o → o.version < 2 ^ 30
order_version w o h = let s = spells w o h in subst (λ q. q.version < 2 ^ 30) s.is (low_version w)

not_any : (s : ℕ) (ps : List ℕ) (j : ℕ) → list_any (λ q. q == s) ps ≡ false → j < length ps → get_or ps j 15 ≢ s
not_any s [] j f l = absurd (omega arith)
not_any s (p ∷ ps) zero f l = is_other p s (or_left (p == s) (list_any (λ q. q == s) ps) f)
not_any s (p ∷ ps) (suc j) f l = not_any s ps j (or_right (p == s) (list_any (λ q. q == s) ps) f) (omega arith)

any_not : (s : ℕ) (ps : List ℕ) → ((j : ℕ) → j < length ps → get_or ps j 15 ≢ s) → list_any (λ q. q == s) ps ≡ false
any_not s [] other = refl
any_not s (p ∷ ps) other = rw (test_other p s (other 0 (omega arith))) (any_not s ps (λ j l. other (suc j) (omega arith)))

all_empty : (ps : List ℕ) → ((j : ℕ) → j < length ps → get_or ps j 15 ≡ 15) → are_empty ps ≡ true
all_empty [] e = refl
all_empty (p ∷ ps) e = let h : p ≡ 15 = e 0 (omega arith) in rw h (all_empty ps (λ j l. e (suc j) (omega arith)))

once_in : (ps : List ℕ) (i j : ℕ) → is_disordered ps ≡ false → i < j → j < length ps → get_or ps i 15 ≡ get_or ps j 15 → get_or ps i 15 ≡ 15
once_in [] i j d l m e = absurd (omega arith)
once_in (p ∷ ps) i zero d l m e = absurd (omega arith)
once_in (p ∷ ps) zero (suc j) d l m e = here (p == 15) refl d
  where
    here : (b : Bool) → (p == 15) ≡ b → ((if b then not (are_empty ps) else list_any (λ q. q == p) ps) || is_disordered ps) ≡ false → p ≡ 15
    here true is d = is_same p 15 is
    here false is d = absurd (not_any p ps j (or_left (list_any (λ q. q == p) ps) (is_disordered ps) d) (omega arith) (sym e))
once_in (p ∷ ps) (suc i) (suc j) d l m e = once_in ps i j (or_right (if p == 15 then not (are_empty ps) else list_any (λ q. q == p) ps) (is_disordered ps) d) (omega arith) (omega arith) e

first_in : (ps : List ℕ) (i j : ℕ) → is_disordered ps ≡ false → i < j → j < length ps → get_or ps i 15 ≡ 15 → get_or ps j 15 ≡ 15
first_in [] i j d l m e = absurd (omega arith)
first_in (p ∷ ps) i zero d l m e = absurd (omega arith)
first_in (p ∷ ps) zero (suc j) d l m e = here (p == 15) (rw e refl) d
  where
    here : (b : Bool) → b ≡ true → ((if b then not (are_empty ps) else list_any (λ q. q == p) ps) || is_disordered ps) ≡ false → get_or ps j 15 ≡ 15
    here true is d = empty_at ps j (not_not (are_empty ps) (or_left (not (are_empty ps)) (is_disordered ps) d))
    here false is d = absurd (cc)
first_in (p ∷ ps) (suc i) (suc j) d l m e = first_in ps i j (or_right (if p == 15 then not (are_empty ps) else list_any (λ q. q == p) ps) (is_disordered ps) d) (omega arith) (omega arith) e

in_order_is : (ps : List ℕ) → AreInOrder ps → is_disordered ps ≡ false
in_order_is [] a = refl
in_order_is (p ∷ ps) a = here (p == 15) refl (in_order_is ps (record { once = λ i j l m e. a.once (suc i) (suc j) (omega arith) (omega arith) e; first = λ i j l m e. a.first (suc i) (suc j) (omega arith) (omega arith) e }))
  where
    here : (b : Bool) → (p == 15) ≡ b → is_disordered ps ≡ false → ((if b then not (are_empty ps) else list_any (λ q. q == p) ps) || is_disordered ps) ≡ false
    here true is d = rw (all_empty ps (λ j l. a.first 0 (suc j) (omega arith) (omega arith) (is_same p 15 is))) d
    here false is d = rw (any_not p ps (λ j l e. is_other p 15 is (a.once 0 (suc j) (omega arith) (omega arith) (sym e)))) d

pub packing_is : (w : ℕ) → IsOrderWord w → is_no_order w ≡ false
packing_is w i = rw (test_other (word_bits 30 2 w) 3 i.policy_is_one) (in_order_is (word_places w) i.in_order)

pub is_packing : (w : ℕ) → is_no_order w ≡ false → IsOrderWord w
is_packing w e =
    let d : is_disordered (word_places w) ≡ false = or_right (word_bits 30 2 w == 3) (is_disordered (word_places w)) e in
    record {
      policy_is_one = is_other (word_bits 30 2 w) 3 (or_left (word_bits 30 2 w == 3) (is_disordered (word_places w)) e);
      in_order = record { once = λ i j l m h. once_in (word_places w) i j d l m h; first = λ i j l m h. first_in (word_places w) i j d l m h };
    }

-- ---- orders that fit their word

-- a slot is below 15, listed or not
all_below : (len i slot : ℕ) → (i < len → slot < 15) → (len ≤ i → slot ≡ 0) → slot < 15
all_below len i slot below past = here (nat_lt i len) refl
  where
    here : (b : Bool) → nat_lt i len ≡ b → slot < 15
    here true e = below (below_is i len e)
    here false e = let z : slot ≡ 0 = past (above_is i len e) in omega arith

-- what holds of eight places
pub of_eight : (P : ℕ → Type 0) → P 0 → P 1 → P 2 → P 3 → P 4 → P 5 → P 6 → P 7 → (i : ℕ) → i < 8 → P i
of_eight P a b c d e f g h zero l = a
of_eight P a b c d e f g h (suc zero) l = b
of_eight P a b c d e f g h (suc (suc zero)) l = c
of_eight P a b c d e f g h (suc (suc (suc zero))) l = d
of_eight P a b c d e f g h (suc (suc (suc (suc zero)))) l = e
of_eight P a b c d e f g h (suc (suc (suc (suc (suc zero))))) l = f
of_eight P a b c d e f g h (suc (suc (suc (suc (suc (suc zero)))))) l = g
of_eight P a b c d e f g h (suc (suc (suc (suc (suc (suc (suc zero))))))) l = h
of_eight P a b c d e f g h (suc (suc (suc (suc (suc (suc (suc (suc i)))))))) l = absurd (omega arith)

pub order_packed : (order : Order) → FitsOrderWord order → order_of_word (order_word order) ≡ Some order
order_packed order fits = order_unpacks order fits.stored fits.version_fits (λ i. all_below order.len i (slice_index order.slots i) (fits.slots_fit i) (fits.stored.past i))

slot_below : (p : ℕ) → p < 16 → slot_or_zero p < 15
slot_below p l = here (p == 15) refl
  where
    here : (b : Bool) → (p == 15) ≡ b → (if b then 0 else p) < 15
    here true e = omega arith
    here false e = let n : p ≢ 15 = is_other p 15 e in omega arith

slots_below : (w i : ℕ) → slice_index (map slot_or_zero (word_places w)) i < 15
slots_below w zero = slot_below (word_bits 32 4 w) (omega arith)
slots_below w (suc zero) = slot_below (word_bits 36 4 w) (omega arith)
slots_below w (suc (suc zero)) = slot_below (word_bits 40 4 w) (omega arith)
slots_below w (suc (suc (suc zero))) = slot_below (word_bits 44 4 w) (omega arith)
slots_below w (suc (suc (suc (suc zero)))) = slot_below (word_bits 48 4 w) (omega arith)
slots_below w (suc (suc (suc (suc (suc zero))))) = slot_below (word_bits 52 4 w) (omega arith)
slots_below w (suc (suc (suc (suc (suc (suc zero)))))) = slot_below (word_bits 56 4 w) (omega arith)
slots_below w (suc (suc (suc (suc (suc (suc (suc zero))))))) = slot_below (word_bits 60 4 w) (omega arith)
slots_below w (suc (suc (suc (suc (suc (suc (suc (suc i)))))))) = omega arith

fits_in : (w : ℕ) → is_no_order w ≡ false → FitsOrderWord (order_in w)
fits_in w e = record {
  stored = is_order w (or_right (word_bits 30 2 w == 3) (is_disordered (word_places w)) e);
  version_fits = low_version w;
  slots_fit = λ i l. slots_below w i;
}

pub order_fits : (w : ℕ) (order : Order) → order_of_word w ≡ Some order → FitsOrderWord order
order_fits w order h = let s = spells w order h in subst FitsOrderWord s.is (fits_in w s.lawful)

pub no_order : (w : ℕ) → w < 2 ^ 64 → ((order : Order) → FitsOrderWord order → order_word order ≢ w) → order_of_word w ≡ None
no_order w l other = here (is_no_order w) refl
  where
    here : (b : Bool) → is_no_order w ≡ b → (if b then None else Some (order_in w)) ≡ None
    here true e = refl
    here false e = absurd (other (order_in w) (fits_in w e) (respelled w l e))

-- what holds of each order of a word
pub if_order : (P : Order → Type 0) (w : ℕ) (result : Option Order) → result ≡ order_of_word w → ((order : Order) → order_of_word w ≡ Some order → P order) → IfSome result P
if_order P w None is all = tt
if_order P w (Some order) is all = all order (sym is)
