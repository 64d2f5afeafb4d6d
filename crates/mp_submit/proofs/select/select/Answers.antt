use Rattle.mp_submit.proofs.Selecting.{selected}
use Rattle.mp_submit.proofs.select.select.Goals as goal

pub returns : goal.returns
returns g c = selected _ _ _ _ _ _ _ _ c.requires.ordered c.read_all.ensures.all c.read_all.ensures.just c.choose.ensures.choice c.choose.ensures.none
