use Rattle.mp_rule.proofs.Promises.{row_moved as holds}
use Rattle.mp_rule.proofs.callers.a_lost_change_met_a_newer_row.Goals as goal

pub returns : goal.returns
returns c = holds
