use Rattle.mp_rule.proofs.Methods.{scan as holds}
use Rattle.mp_rule.proofs.keeper_steps.a_look_at_a_side.Goals as goal

pub returns : goal.returns
returns c = holds
