use Rattle.mp_core.specs.Views as view
use Rattle.mp_plain.specs.Lanes.{lane_turn}
use Rattle.mp_plain.proofs.steps.PlainSteps.load_row.Given as goal

abbrev pub ghosts-turn_row_read : goal.ghosts-turn_row_read
ghosts-turn_row_read a = record { view = lane_turn a._lane (view.row_read a._slot a._row.now a._section.now) a.ledger.now.seat.me.0 }
