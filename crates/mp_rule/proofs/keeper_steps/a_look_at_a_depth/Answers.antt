use Rattle.mp_rule.proofs.Methods.{keeper_depth as holds}
use Rattle.mp_rule.proofs.keeper_steps.a_look_at_a_depth.Goals as goal

pub returns : goal.returns
returns c = holds
