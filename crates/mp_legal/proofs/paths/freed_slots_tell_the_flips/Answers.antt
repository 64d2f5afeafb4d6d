use Rattle.mp_legal.proofs.EachCall.{run_tells}
use Rattle.mp_legal.proofs.paths.freed_slots_tell_the_flips.Goals as goal

pub returns : goal.returns
returns c = run_tells
