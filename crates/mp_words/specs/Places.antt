-- Where a slot stands in a reading.
use Rattle.std.specs.Prelude.{ℕ, ◌+◌, ◌==◌, List, [], ◌∷◌, take, cond}
use Rattle.mp_words.specs.declared.reading.Reading.{Reading}

-- The place of the first of these slots that is the slot, or their number where none is.
abbrev pub place_of : ℕ → List ℕ → ℕ
place_of slot [] = 0
place_of slot (s ∷ slots) = cond (s == slot) 0 (place_of slot slots + 1)

-- The slots of a reading, in order.
abbrev pub slots_in : Reading → List ℕ
slots_in r = take r.len r.slots

-- The place of a slot in a reading, or the number of its slots where it isn't among them.
abbrev pub place_in : ℕ → Reading → ℕ
place_in slot r = place_of slot (slots_in r)
