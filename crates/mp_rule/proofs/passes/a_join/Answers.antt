use Rattle.mp_rule.proofs.Kept.{k7 as holds}
use Rattle.mp_rule.proofs.passes.a_join.Goals as goal

pub returns : goal.returns
returns c = holds
