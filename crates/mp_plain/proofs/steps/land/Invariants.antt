use Rattle.mp_core.specs.Views as view
use Rattle.mp_plain.specs.Lanes.{lane_turn}
use Rattle.mp_plain.proofs.steps.land.Given as goal

abbrev pub ghosts-turn_landed : goal.ghosts-turn_landed
ghosts-turn_landed a = record { view = lane_turn a._lane (view.landed a._flight.now) a.ledger.now.seat.me.0 }
