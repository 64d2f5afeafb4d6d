use Rattle.mp_core.specs.Views as view
use Rattle.mp_plain.specs.Lanes.{unit_turn}
use Rattle.mp_plain.proofs.keeper.PlainKeeperSteps.keep_row.Given as goal

abbrev pub ghosts-turn_keep_moved : goal.ghosts-turn_keep_moved
ghosts-turn_keep_moved a = record { view = unit_turn a._lane (view.keep_moved a._slot a._row.now) a.ledger.now.seat.me.0 }
