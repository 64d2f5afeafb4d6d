use Rattle.mp_keep.proofs.Stands.{room_stands}
use Rattle.mp_keep.proofs.laws.room_leaves_the_keeper.Goals as goal

pub returns : goal.returns
returns c = room_stands
