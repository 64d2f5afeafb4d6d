use Rattle.mp_rule.proofs.Methods.{store_current as holds}
use Rattle.mp_rule.proofs.lane_steps.a_store_of_a_current_word.Goals as goal

pub returns : goal.returns
returns c = holds
