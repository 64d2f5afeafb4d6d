use Rattle.mp_desk.proofs.DeskKeeps.{desk_keeps}
use Rattle.mp_desk.proofs.laws.a_lanes_call_leaves_the_keeper.Goals as goal

pub returns : goal.returns
returns c = λ w call p q k lane to stands. desk_keeps w call p q lane to.goes k stands
