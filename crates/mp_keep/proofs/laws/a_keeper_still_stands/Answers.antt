use Rattle.mp_keep.proofs.Stands.{still_stands}
use Rattle.mp_keep.proofs.laws.a_keeper_still_stands.Goals as goal

pub returns : goal.returns
returns c = still_stands
