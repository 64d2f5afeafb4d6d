use Rattle.std.proofs.Common.{length}
use Rattle.mp_script.proofs.Lanes.{AreMarked}
use Rattle.mp_script.proofs.submits.submitted_in.Given as goal

abbrev pub invariant-loop-rest : goal.invariant-loop-rest
invariant-loop-rest l = AreMarked l.nodes l.bytes l.rest l.begun l.submits

abbrev pub decreases-loop-rest : goal.decreases-loop-rest
decreases-loop-rest l = length l.rest
