use Rattle.mp_legal.proofs.PaidCalls.{run_all_sixteen}
use Rattle.mp_legal.proofs.units.sixteen_more_than_all_are_enough.Goals as goal

pub returns : goal.returns
returns c = run_all_sixteen
