use Rattle.mp_legal.proofs.DeskSettles.{desk_ended}
use Rattle.mp_legal.proofs.desks.ended_flights_are_gone.Goals as goal

pub returns : goal.returns
returns c = λ p b e before m x h ends. desk_ended p b e before m x h ends
