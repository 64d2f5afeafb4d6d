use Rattle.mp_legal.proofs.DeskTurns.{submits_may}
use Rattle.mp_legal.proofs.desk_turns.submits_may_be_made.Goals as goal

pub returns : goal.returns
returns c = λ p m x requests all once. submits_may p m x requests all once
