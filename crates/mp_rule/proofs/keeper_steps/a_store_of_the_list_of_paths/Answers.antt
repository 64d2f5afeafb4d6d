use Rattle.mp_rule.proofs.Methods.{store_order as holds}
use Rattle.mp_rule.proofs.keeper_steps.a_store_of_the_list_of_paths.Goals as goal

pub returns : goal.returns
returns c = holds
