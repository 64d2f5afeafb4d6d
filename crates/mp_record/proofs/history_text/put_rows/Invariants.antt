use Rattle.std.proofs.Common.{◌≡◌, ◌++◌, take}
use Rattle.std.specs.List.{flat_map}
use Rattle.mp_record.specs.NotedText.{written_rows}
use Rattle.mp_record.proofs.history_text.put_rows.Given as goal

-- the lines so far stand in the text
abbrev pub invariant-loop-entries : goal.invariant-loop-entries
invariant-loop-entries l = l.text.items ≡ l.initial.text.items ++ flat_map (written_rows l.topology) (take l.entries-index l.rows)
