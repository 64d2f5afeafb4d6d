use Rattle.mp_legal.proofs.DeskTimes.{calls_times}
use Rattle.mp_legal.proofs.desks.calls_keep_the_requests.Goals as goal

pub returns : goal.returns
returns c = λ w calls p q to. calls_times w calls p q to
