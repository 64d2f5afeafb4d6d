use Rattle.mp_legal.proofs.PaidBack.{run_shows}
use Rattle.mp_legal.proofs.units.runs_are_paid_for.Goals as goal

pub returns : goal.returns
returns c = run_shows
