use Rattle.mp_table.specs.Passes.{table_of}
use Rattle.mp_table.proofs.Tells.{loads_held}
use Rattle.mp_table.proofs.keeper_steps.keeper_row.Given as goal

abbrev pub ghosts-load_as : goal.ghosts-load_as
ghosts-load_as a = record { tells = loads_held (table_of a.shared.now) a._lane a.place a.seat.now.me.0 }
