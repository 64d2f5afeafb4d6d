use Rattle.mp_rule.proofs.Promises.{row_told as holds}
use Rattle.mp_rule.proofs.callers.loads_of_rows_never_go_back.Goals as goal

pub returns : goal.returns
returns c = holds
