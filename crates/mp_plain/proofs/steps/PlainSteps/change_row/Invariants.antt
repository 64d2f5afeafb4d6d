use Rattle.mp_core.specs.Views as view
use Rattle.mp_plain.specs.Lanes.{lane_turn}
use Rattle.mp_plain.proofs.steps.PlainSteps.change_row.Given as goal

abbrev pub ghosts-turn_row_moved : goal.ghosts-turn_row_moved
ghosts-turn_row_moved a = record { view = lane_turn a._lane (view.row_moved a._slot a._row.now a._section.now) a.ledger.now.seat.me.0 }
