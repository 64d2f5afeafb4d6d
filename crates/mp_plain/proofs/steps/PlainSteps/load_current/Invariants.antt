use Rattle.mp_core.specs.Views as view
use Rattle.mp_plain.specs.Lanes.{lane_turn}
use Rattle.mp_plain.proofs.steps.PlainSteps.load_current.Given as goal

abbrev pub ghosts-turn_noted : goal.ghosts-turn_noted
ghosts-turn_noted a = record { view = lane_turn a._lane (view.noted a._section.now) a.ledger.now.seat.me.0 }
