use Rattle.mp_run.proofs.LastRounds.{last_unsent}
use Rattle.mp_run.proofs.laws.last_round_sends_nothing.Goals as goal

pub returns : goal.returns
returns c = last_unsent
