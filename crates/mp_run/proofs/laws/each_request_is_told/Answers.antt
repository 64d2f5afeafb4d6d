use Rattle.mp_run.proofs.KeptRun.{run_asked}
use Rattle.mp_run.proofs.laws.each_request_is_told.Goals as goal

pub returns : goal.returns
returns c i plans req few = run_asked i plans few req
