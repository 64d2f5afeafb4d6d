use Rattle.mp_rule.proofs.Methods.{load_depth as holds}
use Rattle.mp_rule.proofs.lane_steps.a_load_of_a_depth.Goals as goal

pub returns : goal.returns
returns c = holds
