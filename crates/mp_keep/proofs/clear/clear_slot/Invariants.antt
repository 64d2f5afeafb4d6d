use Rattle.std.proofs.Common.{◌≡◌}
use Rattle.mp_core.specs.Core.{stepped}
use Rattle.mp_change.specs.Clears.{cleared_upto, cleared_upto_in}
use Rattle.mp_keep.proofs.clear.clear_slot.Given as goal

abbrev pub invariant-loop-n : goal.invariant-loop-n
invariant-loop-n g l = g.S.Steps.core l.steps ≡ stepped (cleared_upto l.slot l.n) (cleared_upto_in l.slot l.n) (g.S.Steps.core l.fn.steps)
