-- The lines and words of a written text.
use Rattle.std.proofs.Common.{◌≡◌, ℕ, Bool, true, false, ◌&&◌, List, [], ◌∷◌, ◌++◌, ◌*◌, ◌≤◌, length, map, refl, ap, append_assoc, arith}
use Rattle.std.specs.Prelude.{nat_le, not, ◌==◌}
use Rattle.std.specs.List.{list_all, flat_map, join_with_byte}
use Rattle.std.proofs.lemmas.Bool.{false≢true, and_parts}
use Rattle.std.proofs.lemmas.Bool.Decides.{nat_tests}
use Rattle.std.proofs.lemmas.List.{length-append}
use Rattle.std.proofs.lemmas.List.Folds.{list_all-append}
use Rattle.mp_script.specs.Splitting.{is_script_byte, lines_of, words_of, is_blank, goes_on}
use Rattle.mp_script.specs.Written.{line_text}

-- a byte that a word has
abbrev pub is_dark : ℕ → Bool
is_dark b = nat_le 33 b && nat_le b 126

-- a word that stands in a line as it is, of at most 60 bytes
abbrev pub is_plain : List ℕ → Bool
is_plain [] = false
is_plain (b ∷ bs) = nat_le (length bs) 59 && list_all is_dark (b ∷ bs)

-- no line feed
abbrev pub no_feed : List ℕ → Bool
no_feed = list_all (λ b. not (b == 10))

-- it ends no word and no line, and may stand in a script
pub dark_is : (b : ℕ) → is_dark b ≡ true → (is_blank b ≡ false) × ((b == 10) ≡ false) × (is_script_byte b ≡ true)
dark_is b h = (grind (arith, nat_tests), grind (arith, nat_tests), grind (arith, nat_tests))

pub from_not : (b : Bool) → not b ≡ true → b ≡ false
from_not true h = absurd (false≢true h)
from_not false h = refl

line_cut : (front rest : List ℕ) → no_feed front ≡ true → lines_of (front ++ 10 ∷ rest) ≡ front ∷ lines_of rest
line_cut [] rest h = refl
line_cut (b ∷ front) rest h =
    let p = and_parts (not (b == 10)) (no_feed front) h in
    rw (from_not (b == 10) p.0, line_cut front rest p.1) refl

dark_feed : (bs : List ℕ) → list_all is_dark bs ≡ true → no_feed bs ≡ true
dark_feed [] h = refl
dark_feed (b ∷ bs) h =
    let p = and_parts (is_dark b) (list_all is_dark bs) h in
    rw ((dark_is b p.0).1, dark_feed bs p.1) refl

plain_dark : (w : List ℕ) → is_plain w ≡ true → list_all is_dark w ≡ true
plain_dark [] h = refl
plain_dark (b ∷ bs) h = (and_parts (nat_le (length bs) 59) (list_all is_dark (b ∷ bs)) h).1

joined_feed : (ws : List (List ℕ)) → list_all is_plain ws ≡ true → no_feed (join_with_byte 32 ws) ≡ true
joined_feed [] h = refl
joined_feed (w ∷ []) h = dark_feed w (plain_dark w (and_parts (is_plain w) true h).0)
joined_feed (w ∷ v ∷ ws) h =
    let p = and_parts (is_plain w) (list_all is_plain (v ∷ ws)) h in
    rw (list_all-append, dark_feed w (plain_dark w p.0), joined_feed (v ∷ ws) p.1) refl

word_cut : (b : ℕ) (word rest : List ℕ) → list_all is_dark (b ∷ word) ≡ true → goes_on rest ≡ false → words_of ((b ∷ word) ++ rest) ≡ (b ∷ word) ∷ words_of rest
word_cut b [] rest h ends =
    let p = and_parts (is_dark b) true h in
    let dark : is_blank b ≡ false = (dark_is b p.0).0 in
    rw (dark, ends) refl
word_cut b (c ∷ word) rest h ends =
    let p = and_parts (is_dark b) (list_all is_dark (c ∷ word)) h in
    let q = and_parts (is_dark c) (list_all is_dark word) p.1 in
    let dark : is_blank b ≡ false = (dark_is b p.0).0 in
    let next : not (is_blank c) ≡ true = ap not (dark_is c q.0).0 in
    rw (dark, next, word_cut c word rest p.1 ends) refl

word_end : (b : ℕ) (word : List ℕ) → list_all is_dark (b ∷ word) ≡ true → words_of (b ∷ word) ≡ (b ∷ word) ∷ []
word_end b [] h =
    let p = and_parts (is_dark b) true h in
    let dark : is_blank b ≡ false = (dark_is b p.0).0 in
    rw dark refl
word_end b (c ∷ word) h =
    let p = and_parts (is_dark b) (list_all is_dark (c ∷ word)) h in
    let q = and_parts (is_dark c) (list_all is_dark word) p.1 in
    let dark : is_blank b ≡ false = (dark_is b p.0).0 in
    let next : not (is_blank c) ≡ true = ap not (dark_is c q.0).0 in
    rw (dark, next, word_end c word p.1) refl

-- the words of a written line
pub words_of_line : (ws : List (List ℕ)) → list_all is_plain ws ≡ true → words_of (join_with_byte 32 ws) ≡ ws
words_of_line [] h = refl
words_of_line ([] ∷ []) h = absurd (false≢true h)
words_of_line ((b ∷ bs) ∷ []) h = word_end b bs (plain_dark (b ∷ bs) (and_parts (is_plain (b ∷ bs)) true h).0)
words_of_line ([] ∷ v ∷ ws) h = absurd (false≢true h)
words_of_line ((b ∷ bs) ∷ v ∷ ws) h =
    let p = and_parts (is_plain (b ∷ bs)) (list_all is_plain (v ∷ ws)) h in
    rw (word_cut b bs (32 ∷ join_with_byte 32 (v ∷ ws)) (plain_dark (b ∷ bs) p.0) refl, words_of_line (v ∷ ws) p.1) refl

-- all words of all lines are plain
abbrev pub are_plain : List (List (List ℕ)) → Bool
are_plain = list_all (list_all is_plain)

-- the lines of a written text
pub lines_of_text : (lines : List (List (List ℕ))) → are_plain lines ≡ true → lines_of (flat_map line_text lines) ≡ map (join_with_byte 32) lines
lines_of_text [] h = refl
lines_of_text (ws ∷ lines) h =
    let p = and_parts (list_all is_plain ws) (are_plain lines) h in
    let cut : lines_of (join_with_byte 32 ws ++ (10 ∷ flat_map line_text lines)) ≡ join_with_byte 32 ws ∷ lines_of (flat_map line_text lines) = line_cut (join_with_byte 32 ws) (flat_map line_text lines) (joined_feed ws p.0) in
    rw (append_assoc, cut, lines_of_text lines p.1) refl

-- ---- every byte may stand in a script

script_word : (bs : List ℕ) → list_all is_dark bs ≡ true → list_all is_script_byte bs ≡ true
script_word [] h = refl
script_word (b ∷ bs) h =
    let p = and_parts (is_dark b) (list_all is_dark bs) h in
    rw ((dark_is b p.0).2, script_word bs p.1) refl

script_line : (ws : List (List ℕ)) → list_all is_plain ws ≡ true → list_all is_script_byte (join_with_byte 32 ws) ≡ true
script_line [] h = refl
script_line (w ∷ []) h = script_word w (plain_dark w (and_parts (is_plain w) true h).0)
script_line (w ∷ v ∷ ws) h =
    let p = and_parts (is_plain w) (list_all is_plain (v ∷ ws)) h in
    rw (list_all-append, script_word w (plain_dark w p.0), script_line (v ∷ ws) p.1) refl

pub script_bytes : (lines : List (List (List ℕ))) → are_plain lines ≡ true → list_all is_script_byte (flat_map line_text lines) ≡ true
script_bytes [] h = refl
script_bytes (ws ∷ lines) h =
    let p = and_parts (list_all is_plain ws) (are_plain lines) h in
    rw (list_all-append, list_all-append, script_line ws p.0, script_bytes lines p.1) refl

-- ---- the length of the text

plain_short : (w : List ℕ) → is_plain w ≡ true → length w ≤ 60
plain_short [] h = omega arith
plain_short (b ∷ bs) h =
    let p = and_parts (nat_le (length bs) 59) (list_all is_dark (b ∷ bs)) h in
    grind (arith, nat_tests, p.0)

joined_short : (ws : List (List ℕ)) → list_all is_plain ws ≡ true → length (join_with_byte 32 ws) ≤ 61 * length ws
joined_short [] h = omega arith
joined_short (w ∷ []) h = omega (arith, plain_short w (and_parts (is_plain w) true h).0)
joined_short (w ∷ v ∷ ws) h =
    let p = and_parts (is_plain w) (list_all is_plain (v ∷ ws)) h in
    omega (arith, plain_short w p.0, joined_short (v ∷ ws) p.1, length-append w (32 ∷ join_with_byte 32 (v ∷ ws)))

-- at most four words
abbrev pub are_short : List (List (List ℕ)) → Bool
are_short = list_all (λ ws. nat_le (length ws) 4)

pub text_short : (lines : List (List (List ℕ))) → are_plain lines ≡ true → are_short lines ≡ true → length (flat_map line_text lines) ≤ 256 * length lines
text_short [] h short = omega arith
text_short (ws ∷ lines) h short =
    let p = and_parts (list_all is_plain ws) (are_plain lines) h in
    let q = and_parts (nat_le (length ws) 4) (are_short lines) short in
    let few : length ws ≤ 4 = grind (arith, nat_tests, q.0) in
    omega (arith, few, joined_short ws p.0, text_short lines p.1 q.1, length-append (line_text ws) (flat_map line_text lines), length-append (join_with_byte 32 ws) (10 ∷ []))
