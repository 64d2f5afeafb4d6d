use Rattle.mp_rule.proofs.Methods.{flip as holds}
use Rattle.mp_rule.proofs.keeper_steps.a_flip.Goals as goal

pub returns : goal.returns
returns c = holds
