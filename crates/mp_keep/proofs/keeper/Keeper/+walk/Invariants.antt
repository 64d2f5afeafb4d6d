use Rattle.mp_keep.specs.Walks.{looks_left}
use Rattle.mp_keep.proofs.keeper.Keeper.+walk.Given as goal

abbrev pub decreases-walk : goal.decreases-walk
decreases-walk g l = looks_left l.self.now l.place
