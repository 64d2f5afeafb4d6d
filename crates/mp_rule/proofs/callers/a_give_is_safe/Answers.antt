use Rattle.mp_rule.proofs.Laws.{give_is_safe as holds}
use Rattle.mp_rule.proofs.callers.a_give_is_safe.Goals as goal

pub returns : goal.returns
returns c = holds
