use Rattle.mp_rule.proofs.Methods.{keep_row_moved as holds}
use Rattle.mp_rule.proofs.keeper_steps.a_lost_mark.Goals as goal

pub returns : goal.returns
returns c = holds
