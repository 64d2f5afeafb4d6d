-- The bits of a word of the table.
use Rattle.std.specs.Prelude.{ℕ, ◌/◌, ◌%◌, ◌^◌, ◌==◌, Bool, true, false}

-- The number that so many bits of a word spell, from this bit on: `word_bits start width word`.
abbrev pub word_bits : ℕ → ℕ → ℕ → ℕ
word_bits start width word = word / 2 ^ start % 2 ^ width

-- The bit of a word with this number is set.
abbrev pub has_bit : ℕ → ℕ → Bool
has_bit place word = word / 2 ^ place % 2 == 1

-- A flag as a bit: on is 1.
abbrev pub flag_bit : Bool → ℕ
flag_bit false = 0
flag_bit true = 1
