use Rattle.mp_legal.proofs.DeskTurns.{finishes_may}
use Rattle.mp_legal.proofs.desk_turns.finishes_may_be_made.Goals as goal

pub returns : goal.returns
returns c = λ p m x flying. finishes_may p m x flying
