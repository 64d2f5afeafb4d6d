use Rattle.mp_legal.proofs.PaidCalls.{run_enough}
use Rattle.mp_legal.proofs.units.units_are_enough.Goals as goal

pub returns : goal.returns
returns c = run_enough
