use Rattle.mp_legal.proofs.DeskLists.{desk_stops}
use Rattle.mp_legal.proofs.desks.stopped_calls_are_the_plain_stop.Goals as goal

pub returns : goal.returns
returns c = λ i w calls p q before m x by h may to. desk_stops i w calls p q before m x by h may to
