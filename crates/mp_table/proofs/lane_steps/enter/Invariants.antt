use Rattle.mp_table.specs.Passes.{table_of}
use Rattle.mp_table.proofs.Tells.{enters}
use Rattle.mp_table.proofs.lane_steps.enter.Given as goal

abbrev pub ghosts-add_as : goal.ghosts-add_as
ghosts-add_as a = record { tells = enters (table_of a.shared.now) a._lane a.place a.seat.now.me.0 }
