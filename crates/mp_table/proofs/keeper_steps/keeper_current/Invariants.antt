use Rattle.mp_table.specs.Passes.{table_of}
use Rattle.mp_table.proofs.Tells.{empties_current}
use Rattle.mp_table.proofs.keeper_steps.keeper_current.Given as goal

abbrev pub ghosts-store_as : goal.ghosts-store_as
ghosts-store_as a = record { tells = empties_current (table_of a.shared.now) a._lane a.place a.seat.now.me.0 }
