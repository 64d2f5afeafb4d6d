use Rattle.mp_core.specs.Views as view
use Rattle.mp_plain.specs.Lanes.{lane_turn}
use Rattle.mp_plain.proofs.steps.PlainSteps.load_order.Given as goal

abbrev pub ghosts-turn_order_read : goal.ghosts-turn_order_read
ghosts-turn_order_read a = record { view = lane_turn a._lane (view.order_read a._order.now a._section.now) a.ledger.now.seat.me.0 }
