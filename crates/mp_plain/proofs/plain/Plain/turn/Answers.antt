use Rattle.std.proofs.Common.{◌≡◌, sym, ap, refl}
use Rattle.mp_core.specs.declared.view.Seats.{Seats}
use Rattle.mp_core.specs.Unpacked.{unpacked}
use Rattle.mp_plain.specs.Lanes.{core_at}
use Rattle.mp_plain.proofs.Opening.{seats_known}
use Rattle.mp_plain.proofs.plain.Plain.turn.Goals as goal

pub returns-clause-core : goal.returns-clause-core
returns-clause-core c =
    let a = c.args.self.now in
    let m = unpacked a.words in
    ap (λ (s : Seats). core_at a.ledger.seat.table_id c.args.lane s m) (sym (seats_known a.ledger.seat.table_id a.lane m a.ledger.seat.me.0 a.range a.rule))
