use Rattle.mp_run.proofs.TrailsRun.{run_told}
use Rattle.mp_run.proofs.laws.each_try_is_told.Goals as goal

pub returns : goal.returns
returns c = run_told
