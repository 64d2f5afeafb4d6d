use Rattle.mp_run.proofs.KeptRun.{run_over_all}
use Rattle.mp_run.proofs.laws.no_request_is_lost.Goals as goal

pub returns : goal.returns
returns c = run_over_all
