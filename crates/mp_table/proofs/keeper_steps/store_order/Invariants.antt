use Rattle.mp_table.specs.Passes.{table_of}
use Rattle.mp_table.proofs.Tells.{stores_order}
use Rattle.mp_table.proofs.keeper_steps.store_order.Given as goal

abbrev pub ghosts-list_as : goal.ghosts-list_as
ghosts-list_as a = record { tells = stores_order (table_of a.shared.now) a._lane a._entry.now a.seat.now.me.0 }
