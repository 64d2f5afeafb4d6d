use Rattle.mp_core.specs.Views as view
use Rattle.mp_plain.specs.Lanes.{lane_turn}
use Rattle.mp_plain.proofs.steps.PlainSteps.enter.Given as goal

abbrev pub ghosts-turn_entered : goal.ghosts-turn_entered
ghosts-turn_entered a = record { view = lane_turn a._lane (view.entered a._section.now) a.ledger.now.seat.me.0 }
