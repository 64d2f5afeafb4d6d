use Rattle.mp_legal.proofs.DeskTurns.{lane_flights}
use Rattle.mp_legal.proofs.desk_turns.a_desk_has_the_lanes_flights.Goals as goal

pub returns : goal.returns
returns c = λ p before m x h. lane_flights p before m x h
