use Rattle.mp_rule.proofs.Opening.{closes as holds}
use Rattle.mp_rule.proofs.passes.the_rule_ends.Goals as goal

pub returns : goal.returns
returns c = holds
