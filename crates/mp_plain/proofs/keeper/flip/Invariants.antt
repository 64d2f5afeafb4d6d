use Rattle.mp_core.specs.Views as view
use Rattle.mp_plain.specs.Lanes.{keeper_turn}
use Rattle.mp_plain.proofs.keeper.flip.Given as goal

abbrev pub ghosts-turn_flipped : goal.ghosts-turn_flipped
ghosts-turn_flipped a = record { view = keeper_turn a._lane view.flipped a.ledger.now.seat.me.0 }
