use Rattle.mp_legal.proofs.DeskLists.{desk_calls}
use Rattle.mp_legal.proofs.desks.calls_are_the_plain_calls.Goals as goal

pub returns : goal.returns
returns c = λ i w calls p q before m x by h may to. desk_calls i w calls p q before m x by h may to
