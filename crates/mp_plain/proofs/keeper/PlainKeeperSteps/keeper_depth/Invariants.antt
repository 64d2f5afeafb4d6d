use Rattle.mp_core.specs.Views as view
use Rattle.mp_plain.specs.Lanes.{keeper_turn}
use Rattle.mp_plain.proofs.keeper.PlainKeeperSteps.keeper_depth.Given as goal

abbrev pub ghosts-turn_depth_looked : goal.ghosts-turn_depth_looked
ghosts-turn_depth_looked a = record { view = keeper_turn a._lane (view.depth_looked a._slot a._depth) a.ledger.now.seat.me.0 }
