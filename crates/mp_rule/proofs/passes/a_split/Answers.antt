use Rattle.mp_rule.proofs.Kept.{k6 as holds}
use Rattle.mp_rule.proofs.passes.a_split.Goals as goal

pub returns : goal.returns
returns c = holds
