use Rattle.mp_table.specs.Passes.{table_of}
use Rattle.mp_table.proofs.Tells.{changes_row}
use Rattle.mp_table.proofs.lane_steps.change_row.Given as goal

abbrev pub ghosts-exchange_as : goal.ghosts-exchange_as
ghosts-exchange_as a = record { tells = changes_row (table_of a.shared.now) a._lane a._section.now a.place a._row.now a._op.now a._by.now a.seat.now.me.0 }
