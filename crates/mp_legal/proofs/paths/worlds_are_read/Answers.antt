use Rattle.mp_legal.proofs.FitOpening.{world_read}
use Rattle.mp_legal.proofs.paths.worlds_are_read.Goals as goal

pub returns : goal.returns
returns c = λ world script topology. world_read world script c.stated_state_is_in_range.ensures topology
