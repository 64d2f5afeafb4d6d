use Rattle.std.specs.Slots.{slots_items}
use Rattle.mp_table.proofs.Ends.{IsFilled}
use Rattle.mp_table.proofs.passes.fifteen.Given as goal

abbrev pub invariant-loop-i : goal.invariant-loop-i
invariant-loop-i l = IsFilled 15 l.i l.from (slots_items l.closed.words) l.words
