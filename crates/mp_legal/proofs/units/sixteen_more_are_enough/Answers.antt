use Rattle.mp_legal.proofs.PaidCalls.{run_sixteen}
use Rattle.mp_legal.proofs.units.sixteen_more_are_enough.Goals as goal

pub returns : goal.returns
returns c = run_sixteen
