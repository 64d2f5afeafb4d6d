use Rattle.mp_table.specs.Passes.{table_of}
use Rattle.mp_table.proofs.Tells.{loads_order}
use Rattle.mp_table.proofs.lane_steps.load_order.Given as goal

abbrev pub ghosts-read_as : goal.ghosts-read_as
ghosts-read_as a = record { tells = loads_order (table_of a.shared.now) a._lane a._section.now a.seat.now.me.0 }
