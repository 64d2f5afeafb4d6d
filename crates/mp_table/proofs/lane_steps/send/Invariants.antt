use Rattle.mp_table.specs.Passes.{table_of}
use Rattle.mp_table.proofs.Tells.{sends}
use Rattle.mp_table.proofs.lane_steps.send.Given as goal

abbrev pub ghosts-send_as : goal.ghosts-send_as
ghosts-send_as a = record { tells = sends (table_of a.shared.now) a._lane a._section.now a.place a._req a.seat.now.me.0 }
