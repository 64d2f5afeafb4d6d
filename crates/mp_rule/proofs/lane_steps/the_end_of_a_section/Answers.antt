use Rattle.mp_rule.proofs.Methods.{leave as holds}
use Rattle.mp_rule.proofs.lane_steps.the_end_of_a_section.Goals as goal

pub returns : goal.returns
returns c = holds
