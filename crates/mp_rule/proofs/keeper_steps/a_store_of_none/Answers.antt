use Rattle.mp_rule.proofs.Methods.{keeper_current as holds}
use Rattle.mp_rule.proofs.keeper_steps.a_store_of_none.Goals as goal

pub returns : goal.returns
returns c = holds
