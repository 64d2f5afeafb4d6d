use Rattle.mp_legal.proofs.DeskTurns.{list_given}
use Rattle.mp_legal.proofs.desk_turns.a_list_is_given.Goals as goal

pub returns : goal.returns
returns c = λ p before m x h. list_given p before m x h
