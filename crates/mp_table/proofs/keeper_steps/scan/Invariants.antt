use Rattle.mp_table.specs.Passes.{table_of}
use Rattle.mp_table.proofs.Tells.{looks}
use Rattle.mp_table.proofs.keeper_steps.scan.Given as goal

abbrev pub ghosts-load_as : goal.ghosts-load_as
ghosts-load_as a = record { tells = looks (table_of a.shared.now) a._lane a.place a.seat.now.me.0 }
