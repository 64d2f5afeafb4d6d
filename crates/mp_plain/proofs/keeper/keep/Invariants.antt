use Rattle.mp_core.specs.Views as view
use Rattle.mp_plain.specs.Lanes.{unit_turn}
use Rattle.mp_plain.proofs.keeper.keep.Given as goal

abbrev pub ghosts-turn_row_kept : goal.ghosts-turn_row_kept
ghosts-turn_row_kept a = record { view = unit_turn a._lane (view.row_kept a._entry.now) a.ledger.now.seat.me.0 }
