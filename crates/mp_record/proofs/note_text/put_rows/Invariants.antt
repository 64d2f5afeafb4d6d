use Rattle.std.proofs.Common.{◌≡◌, ◌++◌}
use Rattle.mp_line.specs.Words.{joined}
use Rattle.mp_record.specs.NoteText.{row_word}
use Rattle.mp_record.proofs.Joined.{has_items, picked}
use Rattle.mp_record.proofs.note_text.put_rows.Given as goal

-- the rows that were loaded among the first places stand in the text
abbrev pub invariant-loop-i : goal.invariant-loop-i
invariant-loop-i l = record {
  text : l.text.items ≡ l.initial.text.items ++ joined row_word (picked l.read l.slots l.rows l.i);
  further : l.further ≡ has_items (picked l.read l.slots l.rows l.i);
}
