use Rattle.mp_legal.proofs.EachCall.{run_idle}
use Rattle.mp_legal.proofs.paths.freed_slots_are_idle.Goals as goal

pub returns : goal.returns
returns c = run_idle
