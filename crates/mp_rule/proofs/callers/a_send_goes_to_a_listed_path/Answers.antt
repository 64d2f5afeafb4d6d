use Rattle.mp_rule.proofs.Laws.{sends_listed as holds}
use Rattle.mp_rule.proofs.callers.a_send_goes_to_a_listed_path.Goals as goal

pub returns : goal.returns
returns c = holds
