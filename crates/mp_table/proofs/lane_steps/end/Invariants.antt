use Rattle.mp_table.specs.Passes.{table_of}
use Rattle.mp_table.proofs.Tells.{lands}
use Rattle.mp_table.proofs.lane_steps.end.Given as goal

abbrev pub ghosts-land_as : goal.ghosts-land_as
ghosts-land_as a = record { tells = lands (table_of a.shared.now) a._lane a._flight.now a.seat.now.me.0 }
