use Rattle.mp_rule.proofs.Laws.{flight_holds as holds}
use Rattle.mp_rule.proofs.callers.a_flight_holds_its_slot.Goals as goal

pub returns : goal.returns
returns c = holds
