use Rattle.mp_table.specs.Passes.{table_of}
use Rattle.mp_table.proofs.Tells.{looks_depth}
use Rattle.mp_table.proofs.keeper_steps.keeper_depth.Given as goal

abbrev pub ghosts-load_as : goal.ghosts-load_as
ghosts-load_as a = record { tells = looks_depth (table_of a.shared.now) a._lane a.place a.seat.now.me.0 }
