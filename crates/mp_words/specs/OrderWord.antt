-- How the list of paths stands in a word of the table.
use Rattle.std.specs.Prelude.{◌≡◌, ◌≢◌, ℕ, ◌+◌, ◌*◌, ◌%◌, ◌^◌, ◌==◌, ◌<◌, nat_lt, Bool, true, false, not, ◌&&◌, ◌||◌, List, [], ◌∷◌, map, length, get_or, Option, None, Some, slice_index, if◌then◌else◌}
use Rattle.std.specs.List.{list_any}
use Rattle.mp_words.specs.declared.row.Policy.{Policy}
use Rattle.mp_words.specs.declared.row.Policy.TheVariants.{Numa, RoundRobin, QueueDepth}
use Rattle.mp_words.specs.declared.order.Order.{Order}
use Rattle.mp_words.specs.Facts.{IsOrder}
use Rattle.mp_words.specs.WordBits.{word_bits}

-- The number of a policy in an order's word: numa is 0, round-robin 1 and queue-depth 2.
abbrev pub policy_code : Policy → ℕ
policy_code Numa = 0
policy_code RoundRobin = 1
policy_code QueueDepth = 2

-- The policy that has this number; above 2 it is queue-depth.
abbrev pub policy_of : ℕ → Policy
policy_of code = if code == 0 then Numa else (if code == 1 then RoundRobin else QueueDepth)

-- What a place of an order's word says: the slot that is listed there, or 15 where none is.
abbrev pub place_digit : Order → ℕ → ℕ
place_digit order place = if nat_lt place order.len then slice_index order.slots place else 15

-- The word of an order: bits 0 to 29 are the version, 30 to 31 the policy, and then come eight places of 4
-- bits, from bit 32 on.
abbrev pub order_word : Order → ℕ
order_word order =
    order.version + policy_code order.policy * 2 ^ 30 + place_digit order 0 * 2 ^ 32 + place_digit order 1 * 2 ^ 36
    + place_digit order 2 * 2 ^ 40 + place_digit order 3 * 2 ^ 44 + place_digit order 4 * 2 ^ 48
    + place_digit order 5 * 2 ^ 52 + place_digit order 6 * 2 ^ 56 + place_digit order 7 * 2 ^ 60

-- What the eight places of an order's word say, from bit 32 on.
abbrev pub word_places : ℕ → List ℕ
word_places word =
    word_bits 32 4 word ∷ word_bits 36 4 word ∷ word_bits 40 4 word ∷ word_bits 44 4 word ∷ word_bits 48 4 word
    ∷ word_bits 52 4 word ∷ word_bits 56 4 word ∷ word_bits 60 4 word ∷ []

-- How many of these places list a slot.
abbrev pub listed_count : List ℕ → ℕ
listed_count [] = 0
listed_count (p ∷ ps) = if p == 15 then listed_count ps else listed_count ps + 1

-- None of these places lists a slot.
abbrev pub are_empty : List ℕ → Bool
are_empty [] = true
are_empty (p ∷ ps) = (p == 15) && are_empty ps

-- Among these places a slot stands twice, or a listed slot follows an empty place.
abbrev pub is_disordered : List ℕ → Bool
is_disordered [] = false
is_disordered (p ∷ ps) = (if p == 15 then not (are_empty ps) else list_any (λ q. q == p) ps) || is_disordered ps

-- How many of these places list a slot, if they stand in order.
abbrev pub listed_in_order : List ℕ → Option ℕ
listed_in_order places = if is_disordered places then None else Some (listed_count places)

-- The slot that a place lists, or slot 0 where it lists none.
abbrev pub slot_or_zero : ℕ → ℕ
slot_or_zero p = if p == 15 then 0 else p

-- The order that the bits of an order's word spell.
abbrev pub order_in : ℕ → Order
order_in word = record {
  version = word % 2 ^ 30;
  policy = policy_of (word_bits 30 2 word);
  len = listed_count (word_places word);
  slots = map slot_or_zero (word_places word);
}

-- The word is no order's: the policy is 3, a slot stands twice, or a listed slot follows an empty place.
abbrev pub is_no_order : ℕ → Bool
is_no_order word = (word_bits 30 2 word == 3) || is_disordered (word_places word)

-- The order that has this word, if one has.
abbrev pub order_of_word : ℕ → Option Order
order_of_word word = if is_no_order word then None else Some (order_in word)

-- Of two places that say the same neither lists a slot, and behind an empty place all are empty.
pub record AreInOrder (places : List ℕ) : Type 0 where
  pub once : (i j : ℕ) → i < j → j < length places → get_or places i 15 ≡ get_or places j 15 → get_or places i 15 ≡ 15
  pub first : (i j : ℕ) → i < j → j < length places → get_or places i 15 ≡ 15 → get_or places j 15 ≡ 15

-- The word is an order's: the policy isn't 3, no slot stands twice, and no listed slot follows an empty place.
pub record IsOrderWord (word : ℕ) : Type 0 where
  pub policy_is_one : word_bits 30 2 word ≢ 3
  pub in_order : AreInOrder (word_places word)

-- The order fits a word: it is one that is stored, its version is below 2^30, and each listed slot below 15.
pub record FitsOrderWord (order : Order) : Type 0 where
  pub stored : IsOrder order
  pub version_fits : order.version < 2 ^ 30
  pub slots_fit : (i : ℕ) → i < order.len → slice_index order.slots i < 15
