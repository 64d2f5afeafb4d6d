use Rattle.mp_run.proofs.TrailsRun.{run_scripted}
use Rattle.mp_run.proofs.laws.attempts_are_those_of_the_tries.Goals as goal

pub returns : goal.returns
returns c = run_scripted
