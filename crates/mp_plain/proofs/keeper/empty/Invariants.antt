use Rattle.mp_core.specs.Views as view
use Rattle.mp_plain.specs.Lanes.{lane_turn}
use Rattle.mp_plain.proofs.keeper.empty.Given as goal

abbrev pub ghosts-turn_passed : goal.ghosts-turn_passed
ghosts-turn_passed a = record { view = lane_turn a._lane view.passed a.ledger.now.seat.me.0 }
