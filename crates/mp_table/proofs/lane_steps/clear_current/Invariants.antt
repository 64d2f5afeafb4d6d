use Rattle.mp_table.specs.Passes.{table_of}
use Rattle.mp_table.proofs.Tells.{clears_current}
use Rattle.mp_table.proofs.lane_steps.clear_current.Given as goal

abbrev pub ghosts-clear_as : goal.ghosts-clear_as
ghosts-clear_as a = record { tells = clears_current (table_of a.shared.now) a._lane a.place a._slot a.seat.now.me.0 }
