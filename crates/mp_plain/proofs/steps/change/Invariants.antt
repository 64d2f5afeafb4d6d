use Rattle.mp_core.specs.Views as view
use Rattle.mp_plain.specs.Lanes.{lane_turn}
use Rattle.mp_plain.proofs.steps.change.Given as goal

abbrev pub ghosts-turn_row_changed : goal.ghosts-turn_row_changed
ghosts-turn_row_changed a = record { view = lane_turn a._lane (view.row_changed a._entry.now a._section.now) a.ledger.now.seat.me.0 }
