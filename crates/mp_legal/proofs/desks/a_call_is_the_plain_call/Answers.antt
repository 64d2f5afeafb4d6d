use Rattle.mp_legal.proofs.DeskCalls.{desk_call}
use Rattle.mp_legal.proofs.DeskLists.{one_paid}
use Rattle.mp_legal.proofs.desks.a_call_is_the_plain_call.Goals as goal

pub returns : goal.returns
returns c = λ i w call p q before m x by h may to. let led = desk_call i w call p q before m x by h may to.goes in (led.0, led.1, one_paid i w call p q m x to.enough led.1)
