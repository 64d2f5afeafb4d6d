use Rattle.mp_core.specs.Views as view
use Rattle.mp_plain.specs.Lanes.{unit_turn}
use Rattle.mp_plain.proofs.keeper.store.Given as goal

abbrev pub ghosts-turn_order_stored : goal.ghosts-turn_order_stored
ghosts-turn_order_stored a = record { view = unit_turn a._lane (view.order_stored a._entry.now) a.ledger.now.seat.me.0 }
