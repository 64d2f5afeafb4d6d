use Rattle.mp_core.specs.Views as view
use Rattle.mp_plain.specs.Lanes.{lane_turn}
use Rattle.mp_plain.proofs.steps.PlainSteps.leave.Given as goal

abbrev pub ghosts-turn_finished : goal.ghosts-turn_finished
ghosts-turn_finished a = record { view = lane_turn a._lane (view.finished a._section.now) a.ledger.now.seat.me.0 }
