use Rattle.std.proofs.Common.{◌≡◌, ◌++◌, take}
use Rattle.std.specs.List.{flat_map}
use Rattle.mp_record.specs.NotedText.{noted_event}
use Rattle.mp_record.specs.Kept.{told}
use Rattle.mp_record.proofs.kept_text.put_each.Given as goal

-- the lines so far stand in the text
abbrev pub invariant-loop-one : goal.invariant-loop-one
invariant-loop-one l = l.text.items ≡ l.initial.text.items ++ flat_map (λ k. noted_event l.notes (told l.apart k)) (take l.one-index l.kept)
