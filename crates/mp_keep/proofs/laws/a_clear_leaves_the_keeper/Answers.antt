use Rattle.mp_keep.proofs.Stands.{clear_stands}
use Rattle.mp_keep.proofs.laws.a_clear_leaves_the_keeper.Goals as goal

pub returns : goal.returns
returns c = clear_stands
