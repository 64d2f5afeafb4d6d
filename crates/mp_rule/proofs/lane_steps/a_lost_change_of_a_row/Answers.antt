use Rattle.mp_rule.proofs.Methods.{change_moved as holds}
use Rattle.mp_rule.proofs.lane_steps.a_lost_change_of_a_row.Goals as goal

pub returns : goal.returns
returns c = holds
