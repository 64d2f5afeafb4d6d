use Rattle.mp_legal.proofs.SameRequests.{numbers_differ, ordered_same}
use Rattle.mp_legal.proofs.gather_laws.requests_in_any_order_stand_by_number.Goals as goal

pub returns-clause-differ : goal.returns-clause-differ
returns-clause-differ c told requests rise same = numbers_differ told requests rise same

pub returns-clause-same : goal.returns-clause-same
returns-clause-same c told requests others rise same moved climb = ordered_same told requests others rise same moved climb
