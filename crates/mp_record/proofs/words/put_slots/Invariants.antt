use Rattle.std.proofs.Common.{◌≡◌, ◌++◌, take, codes}
use Rattle.std.specs.List.{flat_map}
use Rattle.std.specs.Fmt.{decimal}
use Rattle.mp_record.proofs.words.put_slots.Given as goal

-- those so far stand in the text, each behind a comma
abbrev pub invariant-loop-slot : goal.invariant-loop-slot
invariant-loop-slot l = l.text.items ≡ l.initial.text.items ++ flat_map (λ other. codes "," ++ decimal other) (take l.slot-index l.rest)
