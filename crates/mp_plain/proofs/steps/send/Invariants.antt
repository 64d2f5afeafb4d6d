use Rattle.mp_core.specs.Views as view
use Rattle.mp_plain.specs.Lanes.{lane_turn}
use Rattle.mp_plain.proofs.steps.send.Given as goal

abbrev pub ghosts-turn_flown : goal.ghosts-turn_flown
ghosts-turn_flown a = record { view = lane_turn a._lane (view.flown a._flight.now a._section.now) a.ledger.now.seat.me.0 }
