use Rattle.mp_core.specs.Views as view
use Rattle.mp_plain.specs.Lanes.{keeper_turn}
use Rattle.mp_plain.proofs.steps.clear.Given as goal

abbrev pub ghosts-turn_cleared : goal.ghosts-turn_cleared
ghosts-turn_cleared a = record { view = keeper_turn a._lane (view.cleared a._node a._slot) a.ledger.now.seat.me.0 }
