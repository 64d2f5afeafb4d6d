use Rattle.mp_table.specs.Passes.{table_of}
use Rattle.mp_table.proofs.Tells.{flips}
use Rattle.mp_table.proofs.keeper_steps.flip.Given as goal

abbrev pub ghosts-store_as : goal.ghosts-store_as
ghosts-store_as a = record { tells = flips (table_of a.shared.now) a._lane a.seat.now.me.0 }
