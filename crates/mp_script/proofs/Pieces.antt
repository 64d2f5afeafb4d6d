-- Lines and words, cut from the front.
use Rattle.std.proofs.Common.{inl, inr, ◌≡◌, ℕ, ◌+◌, ◌-◌, ◌*◌, ◌^◌, ◌<◌, ◌≤◌, Bool, true, false, List, [], ◌∷◌, ◌++◌, length, take, drop, get_or, Some, None, refl, sym, ap, ◌∙◌, arith}
use Rattle.std.specs.Prelude.{not, ◌==◌, nat_le}
use Rattle.std.specs.List.{list_all}
use Rattle.std.specs.Str.{bytes_eq}
use Rattle.std.proofs.Math.ListN.{drop_of_length-le}
use Rattle.std.proofs.lemmas.Bool.{false≢true, cases_Bool, cases_lt, and_parts}
use Rattle.std.proofs.lemmas.Bool.Decides.{nat_tests}
use Rattle.std.proofs.lemmas.List.{drop_more, take_more, take_all, take-append-drop, append-nil, length-drop, length-take-le}
use Rattle.std.proofs.lemmas.Grind.{pow_more}
use Rattle.mp_script.specs.Splitting.{lines_of, first_line, behind_line, words_of, is_blank, is_end, goes_on, is_digit, digits_from, number_of}

abbrev pub no_feed : List ℕ → Bool
no_feed = list_all (λ b. not (b == 10))

abbrev pub no_blank : List ℕ → Bool
no_blank = list_all (λ b. not (is_blank b))

abbrev pub no_end : List ℕ → Bool
no_end = list_all (λ b. not (is_end b))

abbrev pub all_blank : List ℕ → Bool
all_blank = list_all is_blank

from_not : (b : Bool) → not b ≡ true → b ≡ false
from_not true h = absurd (false≢true h)
from_not false h = refl

-- ---- words that are one text

bytes_same : (w : List ℕ) → true ≡ bytes_eq w w
bytes_same [] = refl
bytes_same (b ∷ w) =
    let same : (b == b) ≡ true = grind (arith, nat_tests) in
    rw same (bytes_same w)

pub same_word : (w text : List ℕ) (i : ℕ) → length w ≡ length text → length w ≤ i → take i w ≡ take i text → true ≡ bytes_eq w text
same_word w text i count le same =
    let e : w ≡ text = sym (take_all i w le) ∙ same ∙ take_all i text (omega (arith, count, le)) in
    rw e (bytes_same text)

-- ---- lines

pub cut_line : (bytes : List ℕ) → 0 < length bytes → lines_of bytes ≡ first_line bytes ∷ lines_of (behind_line bytes)
cut_line [] some = absurd (omega arith)
cut_line (b ∷ []) some = elim (cases_Bool (b == 10)) [ inl e ↦ rw e refl | inr e ↦ rw e refl ]
cut_line (b ∷ c ∷ bytes) some = elim (cases_Bool (b == 10)) [
  | inl e ↦ rw e refl
  | inr e ↦ rw (e, cut_line (c ∷ bytes) (omega arith)) refl
]

behind_le : (bytes : List ℕ) → length (behind_line bytes) ≤ length bytes
behind_le [] = omega arith
behind_le (b ∷ bytes) = elim (cases_Bool (b == 10)) [ inl e ↦ rw e (omega arith) | inr e ↦ rw e (omega (arith, behind_le bytes)) ]

pub behind_less : (bytes : List ℕ) → 0 < length bytes → length (behind_line bytes) < length bytes
behind_less [] some = absurd (omega arith)
behind_less (b ∷ bytes) some = elim (cases_Bool (b == 10)) [ inl e ↦ rw e (omega arith) | inr e ↦ rw e (omega (arith, behind_le bytes)) ]

first_skip : (front rest : List ℕ) → no_feed front ≡ true → first_line (front ++ rest) ≡ front ++ first_line rest
first_skip [] rest h = refl
first_skip (b ∷ front) rest h =
    let p = and_parts (not (b == 10)) (no_feed front) h in
    let other : (b == 10) ≡ false = from_not (b == 10) p.0 in
    rw (other, first_skip front rest p.1) refl

behind_skip : (front rest : List ℕ) → no_feed front ≡ true → behind_line (front ++ rest) ≡ behind_line rest
behind_skip [] rest h = refl
behind_skip (b ∷ front) rest h =
    let p = and_parts (not (b == 10)) (no_feed front) h in
    let other : (b == 10) ≡ false = from_not (b == 10) p.0 in
    rw other (behind_skip front rest p.1)

-- the first line feed stands at place i
pub behind_at : (bytes rest : List ℕ) (i : ℕ) → i < length bytes → get_or bytes i 0 ≡ 10 → no_feed (take i bytes) ≡ true → rest ≡ drop (i + 1) bytes → rest ≡ behind_line bytes
behind_at bytes rest i lt feed none is =
    let parts : bytes ≡ take i bytes ++ 10 ∷ drop (i + 1) bytes = sym (take-append-drop i bytes) ∙ rw (drop_more bytes i 0 lt, feed) refl in
    is ∙ sym (ap behind_line parts ∙ behind_skip (take i bytes) (10 ∷ drop (i + 1) bytes) none)

pub behind_none : (bytes rest : List ℕ) (i : ℕ) → length bytes ≤ i → no_feed (take i bytes) ≡ true → rest ≡ drop (length bytes) bytes → rest ≡ behind_line bytes
behind_none bytes rest i le none is =
    let whole : no_feed bytes ≡ true = rw (take_all i bytes le) at none in
    let le' : length bytes ≤ length bytes = omega arith in
    is ∙ drop_of_length-le bytes le' ∙ sym (ap behind_line (sym (append-nil bytes)) ∙ behind_skip bytes [] whole)

-- ---- words

blank_feed : (b : ℕ) → is_blank b ≡ true → (b == 10) ≡ false
blank_feed b e = grind (arith, nat_tests)

blanks_feed : (bs : List ℕ) → all_blank bs ≡ true → no_feed bs ≡ true
blanks_feed [] h = refl
blanks_feed (b ∷ bs) h =
    let p = and_parts (is_blank b) (all_blank bs) h in
    rw (blank_feed b p.0, blanks_feed bs p.1) refl

end_parts : (b : ℕ) → not (is_end b) ≡ true → (is_blank b ≡ false) × ((b == 10) ≡ false)
end_parts b e = elim (cases_Bool (is_blank b)) [
  | inl f ↦ absurd (false≢true (rw f at e))
  | inr f ↦ (f, from_not (b == 10) (rw f at e))
]

ends_feed : (bs : List ℕ) → no_end bs ≡ true → no_feed bs ≡ true
ends_feed [] h = refl
ends_feed (b ∷ bs) h =
    let p = and_parts (not (is_end b)) (no_end bs) h in
    rw ((end_parts b p.0).1, ends_feed bs p.1) refl

ends_blank : (bs : List ℕ) → no_end bs ≡ true → no_blank bs ≡ true
ends_blank [] h = refl
ends_blank (b ∷ bs) h =
    let p = and_parts (not (is_end b)) (no_end bs) h in
    rw ((end_parts b p.0).0, ends_blank bs p.1) refl

blanks_skip : (front rest : List ℕ) → all_blank front ≡ true → words_of (front ++ rest) ≡ words_of rest
blanks_skip [] rest h = refl
blanks_skip (b ∷ front) rest h =
    let p = and_parts (is_blank b) (all_blank front) h in
    rw p.0 (blanks_skip front rest p.1)

word_cut : (b : ℕ) (word rest : List ℕ) → no_blank (b ∷ word) ≡ true → goes_on rest ≡ false → words_of ((b ∷ word) ++ rest) ≡ (b ∷ word) ∷ words_of rest
word_cut b [] rest h ends =
    let dark : is_blank b ≡ false = from_not (is_blank b) (and_parts (not (is_blank b)) true h).0 in
    rw (dark, ends) refl
word_cut b (c ∷ word) rest h ends =
    let p = and_parts (not (is_blank b)) (no_blank (c ∷ word)) h in
    let q = and_parts (not (is_blank c)) (no_blank word) p.1 in
    let dark : is_blank b ≡ false = from_not (is_blank b) p.0 in
    rw (dark, q.0, word_cut c word rest p.1 ends) refl

-- the line doesn't go on where a blank or a line feed stands
line_ends : (b : ℕ) (bs : List ℕ) → is_end b ≡ true → goes_on (first_line (b ∷ bs)) ≡ false
line_ends b bs e = elim (cases_Bool (b == 10)) [
  | inl f ↦ rw f refl
  | inr f ↦ elim (cases_Bool (is_blank b)) [
    | inl g ↦ rw (f, g) refl
    | inr g ↦ absurd (false≢true (rw (f, g) at e))
  ]
]

ends_at : (word : List ℕ) (n : ℕ) → (n < length word → is_end (get_or word n 0) ≡ true) → goes_on (first_line (drop n word)) ≡ false
ends_at word n h =
    elim (cases_lt n (length word)) [
      | inl lt ↦ rw (drop_more word n 0 lt) (line_ends (get_or word n 0) (drop (n + 1) word) (h lt))
      | inr past ↦ rw (drop_of_length-le word past) refl
    ]

word_here : (word rest : List ℕ) → 0 < length word → no_end word ≡ true → goes_on (first_line rest) ≡ false → words_of (first_line (word ++ rest)) ≡ word ∷ words_of (first_line rest)
word_here [] rest some dark ends = absurd (omega arith)
word_here (b ∷ word) rest some dark ends =
    ap words_of (first_skip (b ∷ word) rest (ends_feed (b ∷ word) dark)) ∙ word_cut b word (first_line rest) (ends_blank (b ∷ word) dark) ends

skip_here : (front rest : List ℕ) → all_blank front ≡ true → words_of (first_line (front ++ rest)) ≡ words_of (first_line rest)
skip_here front rest h = ap words_of (first_skip front rest (blanks_feed front h)) ∙ blanks_skip front (first_line rest) h

-- A word of n bytes stands behind so many blanks, where n bytes without a blank or a line feed do, and one of these or
-- nothing behind them.
pub record IsCut (bytes word : List ℕ) (start n : ℕ) : Type 0 where
  pub blank : all_blank (take start bytes) ≡ true
  pub dark : start < length bytes → is_blank (get_or bytes start 0) ≡ false
  pub is : word ≡ drop start bytes
  pub le : n ≤ length word
  pub text : no_end (take n word) ≡ true
  pub ends : n < length word → is_end (get_or word n 0) ≡ true

parts_of : (bytes word : List ℕ) (start : ℕ) → word ≡ drop start bytes → bytes ≡ take start bytes ++ word
parts_of bytes word start is = sym (take-append-drop start bytes) ∙ ap (λ (w : List ℕ). take start bytes ++ w) (sym is)

pub first_word : (bytes word : List ℕ) (start n : ℕ) → IsCut bytes word start n → 0 < n → words_of (first_line bytes) ≡ take n word ∷ words_of (first_line (drop n word))
first_word bytes word start n c some =
    let here : words_of (first_line bytes) ≡ words_of (first_line word) = ap (λ (bs : List ℕ). words_of (first_line bs)) (parts_of bytes word start c.is) ∙ skip_here (take start bytes) word c.blank in
    let split : words_of (first_line word) ≡ words_of (first_line (take n word ++ drop n word)) = ap (λ (bs : List ℕ). words_of (first_line bs)) (sym (take-append-drop n word)) in
    here ∙ split ∙ word_here (take n word) (drop n word) (omega (arith, length-take-le n word c.le, some)) c.text (ends_at word n c.ends)

pub behind_word : (bytes word : List ℕ) (start n : ℕ) → IsCut bytes word start n → behind_line (drop n word) ≡ behind_line bytes
behind_word bytes word start n c =
    let here : behind_line bytes ≡ behind_line word = ap behind_line (parts_of bytes word start c.is) ∙ behind_skip (take start bytes) word (blanks_feed (take start bytes) c.blank) in
    let split : behind_line word ≡ behind_line (drop n word) = ap behind_line (sym (take-append-drop n word)) ∙ behind_skip (take n word) (drop n word) (ends_feed (take n word) c.text) in
    sym (here ∙ split)

no_words : (word : List ℕ) → (0 < length word → (is_blank (get_or word 0 0) ≡ false) × (is_end (get_or word 0 0) ≡ true)) → words_of (first_line word) ≡ []
no_words [] h = refl
no_words (b ∷ word) h =
    let p = h (omega arith) in
    let feed : (b == 10) ≡ true = rw p.0 at p.1 in
    rw feed refl

pub no_word : (bytes word : List ℕ) (start n : ℕ) → IsCut bytes word start n → n ≡ 0 → words_of (first_line bytes) ≡ []
no_word bytes word start n c none =
    let here : words_of (first_line bytes) ≡ words_of (first_line word) = ap (λ (bs : List ℕ). words_of (first_line bs)) (parts_of bytes word start c.is) ∙ skip_here (take start bytes) word c.blank in
    here ∙ no_words word (λ some.
    let lt : start < length bytes = omega (arith, some, ap length c.is, length-drop start bytes) in
    (rw (c.is, drop_more bytes start 0 lt) (c.dark lt), rw none at (c.ends (omega (arith, none, some)))))

-- ---- digits

digits_push : (m n b : ℕ) (xs : List ℕ) → digits_from m xs ≡ Some n → is_digit b ≡ true → digits_from m (xs ++ b ∷ []) ≡ Some (n * 10 + (b - 48))
digits_push m n b [] e d =
    let same : m ≡ n = cc in
    rw (d, same) refl
digits_push m n b (x ∷ xs) e d = elim (cases_Bool (is_digit x)) [
  | inl f ↦ rw f (digits_push (m * 10 + (x - 48)) n b xs (rw f at e) d)
  | inr f ↦ absurd (let none : None ≡ Some n = rw f at e in cc)
]

pub digits_more : (word : List ℕ) (i n : ℕ) → i < length word → digits_from 0 (take i word) ≡ Some n → is_digit (get_or word i 0) ≡ true → digits_from 0 (take (i + 1) word) ≡ Some (n * 10 + (get_or word i 0 - 48))
digits_more word i n lt e d = rw (take_more word i 0 lt) (digits_push 0 n (get_or word i 0) (take i word) e d)

pub digit_small : (b : ℕ) → is_digit b ≡ true → b - 48 < 10
digit_small b e = grind (arith, nat_tests)

pub number_small : (n d i : ℕ) → n < 10 ^ i → d < 10 → n * 10 + d < 10 ^ (i + 1)
number_small n d i lt small = omega (arith, pow_more 10 i, lt, small)

digit_end : (b : ℕ) → is_digit b ≡ true → is_end b ≡ false
digit_end b e = grind (arith, nat_tests)

digits_dark : (m n : ℕ) (xs : List ℕ) → digits_from m xs ≡ Some n → no_end xs ≡ true
digits_dark m n [] e = refl
digits_dark m n (x ∷ xs) e = elim (cases_Bool (is_digit x)) [
  | inl f ↦ rw (digit_end x f) (digits_dark (m * 10 + (x - 48)) n xs (rw f at e))
  | inr f ↦ absurd (let none : None ≡ Some n = rw f at e in cc)
]

pub digits_text : (word : List ℕ) (i n : ℕ) → digits_from 0 (take i word) ≡ Some n → no_end (take i word) ≡ true
digits_text word i n e = digits_dark 0 n (take i word) e

few_digits : (xs : List ℕ) → 0 < length xs → length xs ≤ 10 → number_of xs ≡ digits_from 0 xs
few_digits [] some few = absurd (omega arith)
few_digits (x ∷ xs) some few =
    let le : nat_le (length xs) 9 ≡ true = grind (arith, nat_tests) in
    rw le refl

pub digits_number : (word : List ℕ) (i n : ℕ) → i < length word → 0 < i → i ≤ 10 → digits_from 0 (take i word) ≡ Some n → number_of (take i word) ≡ Some n
digits_number word i n lt some few e =
    let count : length (take i word) ≡ i = length-take-le i word (omega (arith, lt)) in
    few_digits (take i word) (omega (arith, count, some)) (omega (arith, count, few)) ∙ e

-- a word of n digits stands in front
pub digits_first : (word : List ℕ) (n : ℕ) → 0 < n → n ≤ length word → no_end (take n word) ≡ true → (n < length word → is_end (get_or word n 0) ≡ true) → words_of (first_line word) ≡ take n word ∷ words_of (first_line (drop n word))
digits_first word n some le text ends =
    ap (λ (bs : List ℕ). words_of (first_line bs)) (sym (take-append-drop n word)) ∙ word_here (take n word) (drop n word) (omega (arith, length-take-le n word le, some)) text (ends_at word n ends)

pub digits_behind : (word : List ℕ) (n : ℕ) → no_end (take n word) ≡ true → behind_line (drop n word) ≡ behind_line word
digits_behind word n text = sym (ap behind_line (sym (take-append-drop n word)) ∙ behind_skip (take n word) (drop n word) (ends_feed (take n word) text))
