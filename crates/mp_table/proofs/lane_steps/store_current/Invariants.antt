use Rattle.mp_table.specs.Passes.{table_of}
use Rattle.mp_table.proofs.Tells.{stores_current}
use Rattle.mp_table.proofs.lane_steps.store_current.Given as goal

abbrev pub ghosts-keep_current_as : goal.ghosts-keep_current_as
ghosts-keep_current_as a = record { tells = stores_current (table_of a.shared.now) a._lane a._section.now a.place a._slot.now a.seat.now.me.0 }
