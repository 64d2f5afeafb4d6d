-- How a side stands in a word of the table.
use Rattle.std.specs.Prelude.{ℕ, ◌+◌, ◌*◌, ◌/◌, ◌%◌, ◌^◌}
use Rattle.mp_words.specs.declared.words.Side.{Side}

-- The word of a side: bits 0 to 31 are the sections inside, 32 to 63 the entries.
abbrev pub side_word : Side → ℕ
side_word side = side.inside + side.entries * 2 ^ 32

-- The side that has this word.
abbrev pub side_of_word : ℕ → Side
side_of_word word = record { entries = word / 2 ^ 32; inside = word % 2 ^ 32 }
