use Rattle.mp_rule.proofs.Methods.{enter as holds}
use Rattle.mp_rule.proofs.lane_steps.an_entry_of_a_side.Goals as goal

pub returns : goal.returns
returns c = holds
