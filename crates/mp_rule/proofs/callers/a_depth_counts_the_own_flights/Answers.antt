use Rattle.mp_rule.proofs.Promises.{depth_own as holds}
use Rattle.mp_rule.proofs.callers.a_depth_counts_the_own_flights.Goals as goal

pub returns : goal.returns
returns c = holds
