use Rattle.std.proofs.Common.{◌≡◌}
use Rattle.mp_core.specs.Core.{stepped}
use Rattle.mp_change.specs.Clears.{emptied_upto_in}
use Rattle.mp_keep.specs.Keeps.{passed_upto}
use Rattle.mp_keep.proofs.clear.clear_all.Given as goal

abbrev pub invariant-loop-n : goal.invariant-loop-n
invariant-loop-n g l = g.S.Steps.core l.steps ≡ stepped (passed_upto l.n) (emptied_upto_in l.n) (g.S.Steps.core l.fn.steps)
