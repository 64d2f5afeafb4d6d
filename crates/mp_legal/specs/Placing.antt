-- The histories of the slots while entries are written into them, each at its version.
use Rattle.std.specs.Prelude.{ℕ, suc, List, [], ◌∷◌, map, filter, replicate}
use Rattle.std.specs.List.{enumerate_from, range_with_len}
use Rattle.mp_words.specs.declared.row.Row.{Row}
use Rattle.mp_words.specs.declared.entry.RowEntry.{RowEntry}
use Rattle.mp_legal.specs.Opening.{opening_entry}
use Rattle.mp_legal.specs.Gathering.{count_of, is_version}

-- the last of these entries, or else this one
abbrev pub last_entry : RowEntry → List RowEntry → RowEntry
last_entry e [] = e
last_entry e (x ∷ entries) = last_entry x entries

-- the entry of a version of the slot, if it is among those that were written, and else the first one
abbrev pub entry_at : List RowEntry → RowEntry → ℕ → RowEntry
entry_at written first version = last_entry first (filter (is_version first.slot version) written)

-- the history of a slot once these entries of all were written
abbrev pub written_in : List RowEntry → List RowEntry → RowEntry → List RowEntry
written_in entries written first = first ∷ map (entry_at written first) (range_with_len 1 (count_of first.slot entries))

-- as many places as the slot will have entries, each with the first one
abbrev pub blank_for : List RowEntry → RowEntry → List RowEntry
blank_for entries first = replicate (suc (count_of first.slot entries)) first

-- the entries of these rows, by slot from this one on
abbrev pub firsts : ℕ → List Row → List RowEntry
firsts slot rows = map opening_entry (enumerate_from slot rows)
