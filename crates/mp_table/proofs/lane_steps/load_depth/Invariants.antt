use Rattle.mp_table.specs.Passes.{table_of}
use Rattle.mp_table.proofs.Tells.{loads_depth}
use Rattle.mp_table.proofs.lane_steps.load_depth.Given as goal

abbrev pub ghosts-read_as : goal.ghosts-read_as
ghosts-read_as a = record { tells = loads_depth (table_of a.shared.now) a._lane a._section.now a.place a.seat.now.me.0 }
