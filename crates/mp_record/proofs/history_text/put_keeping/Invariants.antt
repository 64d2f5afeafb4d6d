use Rattle.std.proofs.Common.{◌≡◌, ◌++◌, take}
use Rattle.std.specs.List.{flat_map}
use Rattle.mp_record.specs.NotedText.{noted_keep}
use Rattle.mp_record.proofs.history_text.put_keeping.Given as goal

-- the lines so far stand in the text
abbrev pub invariant-loop-entry : goal.invariant-loop-entry
invariant-loop-entry l = l.text.items ≡ l.initial.text.items ++ flat_map (noted_keep l.notes) (take l.entry-index l.keeping)
