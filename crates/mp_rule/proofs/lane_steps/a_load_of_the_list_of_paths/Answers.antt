use Rattle.mp_rule.proofs.Methods.{load_order as holds}
use Rattle.mp_rule.proofs.lane_steps.a_load_of_the_list_of_paths.Goals as goal

pub returns : goal.returns
returns c = holds
