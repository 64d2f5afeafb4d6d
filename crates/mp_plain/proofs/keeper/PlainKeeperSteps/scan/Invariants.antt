use Rattle.mp_core.specs.Views as view
use Rattle.mp_core.specs.Views.{last_version}
use Rattle.mp_plain.specs.Lanes.{keeper_turn, keeper_of}
use Rattle.mp_plain.proofs.keeper.PlainKeeperSteps.scan.Given as goal

abbrev pub ghosts-turn_scanned : goal.ghosts-turn_scanned
ghosts-turn_scanned a = record { view = keeper_turn a._lane (view.scanned a._side a._found.entries a._found.inside (last_version (keeper_of a.ledger.now.seat.me.0))) a.ledger.now.seat.me.0 }
