use Rattle.mp_legal.proofs.DeskSettles.{desk_settled}
use Rattle.mp_legal.proofs.desks.a_spent_lane_is_settled.Goals as goal

pub returns : goal.returns
returns c = λ i w calls p q b e before m x by h may to ends. desk_settled i w calls p q b e before m x by h may to ends
