use Rattle.mp_core.specs.Views as view
use Rattle.mp_plain.specs.Lanes.{keeper_turn}
use Rattle.mp_plain.proofs.keeper.PlainKeeperSteps.keeper_row.Given as goal

abbrev pub ghosts-turn_row_held : goal.ghosts-turn_row_held
ghosts-turn_row_held a = record { view = keeper_turn a._lane (view.row_held a._slot a._row.now) a.ledger.now.seat.me.0 }
