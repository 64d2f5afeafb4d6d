use Rattle.mp_run.proofs.LastRounds.{enough_rounds}
use Rattle.mp_run.proofs.laws.more_rounds_change_nothing.Goals as goal

pub returns : goal.returns
returns c = enough_rounds
