use Rattle.mp_table.specs.Passes.{table_of}
use Rattle.mp_table.proofs.Tells.{loads_side}
use Rattle.mp_table.proofs.lane_steps.load_side.Given as goal

abbrev pub ghosts-load_as : goal.ghosts-load_as
ghosts-load_as a = record { tells = loads_side (table_of a.shared.now) a._lane a.seat.now.me.0 }
