use Rattle.mp_keep.proofs.Opening.{a_new_keeper}
use Rattle.mp_keep.proofs.laws.a_new_keeper_stands.Goals as goal

pub returns : goal.returns
returns c = a_new_keeper
