use Rattle.mp_run.proofs.PaidRun.{paid_is_plain}
use Rattle.mp_run.proofs.laws.paid_run_is_the_plain_run.Goals as goal

pub returns : goal.returns
returns c = paid_is_plain
