-- How a status is written and read.
use Rattle.std.specs.Prelude.{ℕ, ◌+◌, ◌*◌, ◌-◌, ◌/◌, ◌%◌, Bool, ◌&&◌, ◌||◌, ◌==◌, nat_le, if◌then◌else◌, List, [], ◌∷◌, length, Option, Some, None}

-- The byte of a hexadecimal digit from 0 to 15, in upper case: `0` to `9` are 48 to 57, and `A` to `F` 65 to 70.
abbrev pub hex_digit : ℕ → ℕ
hex_digit digit = if nat_le digit 9 then 48 + digit else 55 + digit

-- A status below 10000h as a word: its four hexadecimal digits in upper case, the highest first.
abbrev pub status_word : ℕ → List ℕ
status_word status =
    hex_digit (status / 4096 % 16) ∷ hex_digit (status / 256 % 16) ∷ hex_digit (status / 16 % 16) ∷ hex_digit (status % 16) ∷ []

-- The byte is a hexadecimal digit, of either case.
abbrev pub is_hex : ℕ → Bool
is_hex b = (nat_le 48 b && nat_le b 57) || ((nat_le 65 b && nat_le b 70) || (nat_le 97 b && nat_le b 102))

-- The value of a byte that is a hexadecimal digit.
abbrev pub hex_value : ℕ → ℕ
hex_value b = if nat_le b 57 then b - 48 else if nat_le b 70 then b - 55 else b - 87

-- The number that these bytes give as further hexadecimal digits behind a number, if each of them is one.
abbrev pub hex_from : ℕ → List ℕ → Option ℕ
hex_from n [] = Some n
hex_from n (b ∷ bs) = if is_hex b then hex_from (n * 16 + hex_value b) bs else None

-- The status that a word of four hexadecimal digits says, in either case; no other word says one.
abbrev pub status_in : List ℕ → Option ℕ
status_in word = if length word == 4 then hex_from 0 word else None
