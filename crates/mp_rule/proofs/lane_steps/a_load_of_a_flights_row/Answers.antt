use Rattle.mp_rule.proofs.Methods.{flight_row as holds}
use Rattle.mp_rule.proofs.lane_steps.a_load_of_a_flights_row.Goals as goal

pub returns : goal.returns
returns c = holds
