use Rattle.mp_rule.proofs.Methods.{load_current as holds}
use Rattle.mp_rule.proofs.lane_steps.a_load_of_a_current_word.Goals as goal

pub returns : goal.returns
returns c = holds
