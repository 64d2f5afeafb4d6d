use Rattle.mp_table.specs.Passes.{table_of}
use Rattle.mp_table.proofs.Tells.{leaves}
use Rattle.mp_table.proofs.lane_steps.leave.Given as goal

abbrev pub ghosts-sub_as : goal.ghosts-sub_as
ghosts-sub_as a = record { tells = leaves (table_of a.shared.now) a._lane a._section.now a.seat.now.me.0 }
