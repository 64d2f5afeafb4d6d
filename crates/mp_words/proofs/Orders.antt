-- An order's word and its fields.
use Rattle.std.proofs.Common.{◌≡◌, ℕ, ◌%◌, ◌^◌, ◌<◌, ◌==◌, Bool, true, false, ◌||◌, List, map, Option, None, Some, refl, sym, ap, ◌∙◌, arith, if◌then◌else◌}
use Rattle.std.proofs.lemmas.Bool.Decides.{nat_tests}
use Rattle.mp_words.specs.declared.row.Policy.{Policy}
use Rattle.mp_words.specs.WordBits.{word_bits}
use Rattle.mp_words.specs.OrderWord.{policy_of, word_places, listed_count, is_disordered, listed_in_order, slot_or_zero, order_of_word}

or_true : (b : Bool) → (b || true) ≡ true
or_true true = refl
or_true false = refl

-- the places stand in order or not, as `listed_in_order` says
disordered : (ps : List ℕ) (b : Bool) → is_disordered ps ≡ b → (if b then None else Some (listed_count ps)) ≡ None → is_disordered ps ≡ true
disordered ps true e h = e
disordered ps false e h = absurd (cc)

ordered : (ps : List ℕ) (n : ℕ) (b : Bool) → is_disordered ps ≡ b → (if b then None else Some (listed_count ps)) ≡ Some n → is_disordered ps ≡ false
ordered ps n true e h = absurd (cc)
ordered ps n false e h = e

pub none_of : (w : ℕ) → listed_in_order (word_places w) ≡ None → order_of_word w ≡ None
none_of w e =
    let d : is_disordered (word_places w) ≡ true = disordered (word_places w) (is_disordered (word_places w)) refl e in
    rw d (rw (or_true (word_bits 30 2 w == 3)) refl)

three_not : (n : ℕ) → n < 3 → (n == 3) ≡ false
three_not n l = grind (arith, nat_tests)

abbrev len_or : ℕ → Option ℕ → ℕ
len_or d None = d
len_or d (Some n) = n

same_len : (m n : ℕ) → Some m ≡ Some n → m ≡ n
same_len m n h = ap (len_or 0) h

in_order : (ps : List ℕ) → is_disordered ps ≡ false → listed_in_order ps ≡ Some (listed_count ps)
in_order ps d = rw d refl

len_of : (ps : List ℕ) (n : ℕ) → is_disordered ps ≡ false → listed_in_order ps ≡ Some n → n ≡ listed_count ps
len_of ps n d e = sym (same_len (listed_count ps) n (sym (in_order ps d) ∙ e))

pub some_of : (w version : ℕ) (policy : Policy) (len : ℕ) → version ≡ w % 2 ^ 30 → word_bits 30 2 w < 3 → policy ≡ policy_of (word_bits 30 2 w) → listed_in_order (word_places w) ≡ Some len → Some (record { version = version; policy = policy; len = len; slots = map slot_or_zero (word_places w) }) ≡ order_of_word w
some_of w version policy len v l p e =
    let d : is_disordered (word_places w) ≡ false = ordered (word_places w) len (is_disordered (word_places w)) refl e in
    rw v (rw p (rw (len_of (word_places w) len d e) (rw (three_not (word_bits 30 2 w) l) (rw d refl))))
