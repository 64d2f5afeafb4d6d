use Rattle.mp_rule.proofs.Methods.{load_side as holds}
use Rattle.mp_rule.proofs.lane_steps.a_load_of_the_side_index.Goals as goal

pub returns : goal.returns
returns c = holds
