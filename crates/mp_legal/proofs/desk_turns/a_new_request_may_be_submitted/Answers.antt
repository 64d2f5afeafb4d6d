use Rattle.mp_legal.proofs.DeskTurns.{new_may}
use Rattle.mp_legal.proofs.desk_turns.a_new_request_may_be_submitted.Goals as goal

pub returns : goal.returns
returns c = λ p before m x r h none new. new_may p before m x r h none new
