use Rattle.mp_rule.proofs.Methods.{send as holds}
use Rattle.mp_rule.proofs.lane_steps.a_send.Goals as goal

pub returns : goal.returns
returns c = holds
