use Rattle.mp_rule.proofs.Laws.{not_freed as holds}
use Rattle.mp_rule.proofs.callers.no_path_is_freed_under_a_flight.Goals as goal

pub returns : goal.returns
returns c = holds
