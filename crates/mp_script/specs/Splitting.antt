-- The lines of a text, the words of a line, and the numbers that words are.
use Rattle.std.specs.Prelude.{ℕ, Bool, false, ◌&&◌, ◌||◌, not, nat_le, ◌==◌, if◌then◌else◌, is_some, List, [], ◌∷◌, unwrap_or}
use Rattle.mp_checks.specs.Checks.{if_there}
use Rattle.mp_words.specs.Status.{status_in}
pub use Rattle.mp_checks.specs.Digits.{is_digit, digits_from, number_of}

-- what a script may have: 20h to 7Eh, tab, carriage return and line feed
abbrev pub is_script_byte : ℕ → Bool
is_script_byte b = (nat_le 32 b && nat_le b 126) || (b == 9 || (b == 13 || b == 10))

-- what separates words in a line
abbrev pub is_blank : ℕ → Bool
is_blank b = b == 32 || (b == 9 || b == 13)

-- the first piece gets one more byte in front
abbrev pub with_front : ℕ → List (List ℕ) → List (List ℕ)
with_front b [] = (b ∷ []) ∷ []
with_front b (l ∷ ls) = (b ∷ l) ∷ ls

-- the lines: each ends at a line feed, the last may lack it
abbrev pub lines_of : List ℕ → List (List ℕ)
lines_of [] = []
lines_of (b ∷ bs) = if b == 10 then [] ∷ lines_of bs else with_front b (lines_of bs)

-- the piece in front of these bytes goes on with them
abbrev pub goes_on : List ℕ → Bool
goes_on [] = false
goes_on (b ∷ bs) = not (is_blank b)

-- the words of a line: the longest pieces without a blank
abbrev pub words_of : List ℕ → List (List ℕ)
words_of [] = []
words_of (b ∷ bs) =
    if is_blank b then words_of bs
    else if goes_on bs then with_front b (words_of bs)
    else (b ∷ []) ∷ words_of bs

-- ---- the first line of a text

-- the bytes before the first line feed
abbrev pub first_line : List ℕ → List ℕ
first_line [] = []
first_line (b ∷ bs) = if b == 10 then [] else b ∷ first_line bs

-- the bytes behind the first line feed
abbrev pub behind_line : List ℕ → List ℕ
behind_line [] = []
behind_line (b ∷ bs) = if b == 10 then bs else behind_line bs

-- a blank or a line feed, which a word ends at
abbrev pub is_end : ℕ → Bool
is_end b = is_blank b || b == 10

-- ---- numbers

-- the number that a word is, or 0
abbrev pub value_of : List ℕ → ℕ
value_of w = unwrap_or (number_of w) 0

-- a number of one to ten digits, from low to high
abbrev pub is_in : ℕ → ℕ → List ℕ → Bool
is_in low high w = is_some (number_of w) && if_there (λ n. nat_le low n && nat_le n high) (number_of w)

-- ---- statuses

-- the word is a status: four hexadecimal digits, in either case, that are at most 7FFFh
abbrev pub is_status : List ℕ → Bool
is_status w = is_some (status_in w) && if_there (λ n. nat_le n 32767) (status_in w)

-- the status that a word is, or 0
abbrev pub status_of : List ℕ → ℕ
status_of w = unwrap_or (status_in w) 0
