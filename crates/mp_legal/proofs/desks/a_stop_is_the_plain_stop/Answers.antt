use Rattle.mp_legal.proofs.DeskCalls.{desk_stop}
use Rattle.mp_legal.proofs.DeskLists.{one_short}
use Rattle.mp_legal.proofs.desks.a_stop_is_the_plain_stop.Goals as goal

pub returns : goal.returns
returns c = λ w call p q before m x h to. let stop = desk_stop w call p q before m x h to in (stop.0, stop.1, λ i at s. one_short i at s p.core.view.left call stop.0)
