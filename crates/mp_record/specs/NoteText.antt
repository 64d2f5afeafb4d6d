-- How the run text writes a section, and a look of a grace period that found nobody.
use Rattle.std.specs.Prelude.{ℕ, List, [], ◌++◌, zip, codes, Option, Some, None, filter_map}
use Rattle.std.specs.List.{items_where_true}
use Rattle.std.specs.Fmt.{decimal}
use Rattle.mp_words.specs.declared.row.Row.{Row}
use Rattle.mp_words.specs.declared.order.Order.{Order}
use Rattle.mp_words.specs.declared.entry.Closing.{Closing}
use Rattle.mp_words.specs.declared.note.Note.{Note}
use Rattle.mp_line.specs.Words.{one_number, two_numbers, three_numbers, pair_word, list_word}
use Rattle.mp_record.specs.Words.{grace_word, maker_word}

-- the version of the order that was read, or a dash
abbrev pub order_word : Option Order → List ℕ
order_word None = codes "-"
order_word (Some order) = decimal order.version

-- the slots whose rows were loaded, each with its row
abbrev pub loaded_rows : Note → List (ℕ × Row)
loaded_rows note = items_where_true note.read (zip note.reading.slots note.reading.rows)

-- a slot with the version of its row
abbrev pub row_word : ℕ × Row → List ℕ
row_word path = pair_word path.0 path.1.version

-- the slots whose rows were loaded, with the versions
abbrev pub rows_word : Note → List ℕ
rows_word note = list_word row_word (loaded_rows note)

-- the current path that was read: a slot or none, or a dash where none was read
abbrev pub current_word : Option (Option ℕ) → List ℕ
current_word None = codes "-"
current_word (Some None) = codes "none"
current_word (Some (Some slot)) = decimal slot

-- a slot with its depth, where that was loaded
abbrev pub loaded_depth : ℕ × Option ℕ → Option (ℕ × ℕ)
loaded_depth (slot, None) = None
loaded_depth (slot, Some depth) = Some (slot, depth)

-- the slots whose depths were loaded, each with its depth
abbrev pub loaded_depths : Note → List (ℕ × ℕ)
loaded_depths note = filter_map loaded_depth (zip note.reading.slots note.depths)

-- a slot with its depth
abbrev pub depth_word : ℕ × ℕ → List ℕ
depth_word path = pair_word path.0 path.1

-- the slots whose depths were loaded, with the depths
abbrev pub depths_word : Note → List ℕ
depths_word note = list_word depth_word (loaded_depths note)

-- the slot and the version of another row that was met
abbrev pub moved_word : Option (ℕ × ℕ) → List ℕ
moved_word None = []
moved_word (Some row) = two_numbers (codes " moved") row.0 row.1

-- what a section read: the order's version, the rows, the current path and the depths
abbrev pub read_words : Note → List ℕ
read_words note = order_word note.order ++ codes " " ++ rows_word note ++ codes " " ++ current_word note.current ++ codes " " ++ depths_word note

-- a section: its side and ticket, what it read, and what it found moved
abbrev pub section_line : Note → Option (ℕ × ℕ) → List ℕ
section_line note moved = two_numbers (codes "sec") note.side note.ticket ++ codes " " ++ read_words note ++ moved_word moved ++ codes "\n"

-- a look of a grace period that found nobody: slot, grace period, side, entries, the order's version, the mark's version, and whose reap it was
abbrev pub closing_line : Closing → List ℕ
closing_line c =
    one_number (codes "closing") c.slot ++ codes " " ++ three_numbers (grace_word c.grace) c.side c.entries c.order
    ++ codes " " ++ decimal c.mark ++ codes " " ++ maker_word c.by ++ codes "\n"
