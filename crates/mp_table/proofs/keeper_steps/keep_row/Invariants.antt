use Rattle.mp_table.specs.Passes.{table_of}
use Rattle.mp_table.proofs.Tells.{keeps_row}
use Rattle.mp_table.proofs.keeper_steps.keep_row.Given as goal

abbrev pub ghosts-keep_as : goal.ghosts-keep_as
ghosts-keep_as a = record { tells = keeps_row (table_of a.shared.now) a._lane a.place a._row.now a._op.now a._by.now a.seat.now.me.0 }
