use Rattle.mp_legal.proofs.DeskTurns.{list_taken}
use Rattle.mp_legal.proofs.desk_turns.a_list_is_taken.Goals as goal

pub returns : goal.returns
returns c = λ p before m x waiting h none. list_taken p before m x waiting h none
