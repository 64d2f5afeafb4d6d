use Rattle.mp_rule.proofs.Methods.{keep_row_done as holds}
use Rattle.mp_rule.proofs.keeper_steps.a_change_of_the_keepers_row.Goals as goal

pub returns : goal.returns
returns c = holds
