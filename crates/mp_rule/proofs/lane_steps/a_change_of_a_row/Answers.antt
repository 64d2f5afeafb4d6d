use Rattle.mp_rule.proofs.Methods.{change_done as holds}
use Rattle.mp_rule.proofs.lane_steps.a_change_of_a_row.Goals as goal

pub returns : goal.returns
returns c = holds
