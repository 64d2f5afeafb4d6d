use Rattle.mp_rule.proofs.Methods.{keeper_row as holds}
use Rattle.mp_rule.proofs.keeper_steps.a_load_of_the_keepers_row.Goals as goal

pub returns : goal.returns
returns c = holds
