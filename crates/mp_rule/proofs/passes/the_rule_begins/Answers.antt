use Rattle.mp_rule.proofs.Opening.{opens as holds}
use Rattle.mp_rule.proofs.passes.the_rule_begins.Goals as goal

pub returns : goal.returns
returns c = holds
