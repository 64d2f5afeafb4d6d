use Rattle.mp_rule.proofs.Methods.{end as holds}
use Rattle.mp_rule.proofs.lane_steps.the_end_of_a_flight.Goals as goal

pub returns : goal.returns
returns c = holds
