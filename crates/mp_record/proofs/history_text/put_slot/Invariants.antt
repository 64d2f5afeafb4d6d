use Rattle.std.proofs.Common.{◌≡◌, ◌++◌, take}
use Rattle.mp_record.specs.NotedText.{written_rows}
use Rattle.mp_record.proofs.history_text.put_slot.Given as goal

-- the lines so far stand in the text
abbrev pub invariant-loop-entry : goal.invariant-loop-entry
invariant-loop-entry l = l.text.items ≡ l.initial.text.items ++ written_rows l.topology (take l.entry-index l.entries)
