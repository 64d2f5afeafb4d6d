use Rattle.std.proofs.Common.{◌≡◌, ◌++◌}
use Rattle.mp_line.specs.Words.{joined}
use Rattle.mp_record.specs.NoteText.{depth_word, loaded_depth}
use Rattle.mp_record.proofs.Joined.{has_items, given}
use Rattle.mp_record.proofs.note_text.put_depths.Given as goal

-- the depths that were loaded among the first places stand in the text
abbrev pub invariant-loop-i : goal.invariant-loop-i
invariant-loop-i l = record {
  text : l.text.items ≡ l.initial.text.items ++ joined depth_word (given loaded_depth l.slots l.depths l.i);
  further : l.further ≡ has_items (given loaded_depth l.slots l.depths l.i);
}
