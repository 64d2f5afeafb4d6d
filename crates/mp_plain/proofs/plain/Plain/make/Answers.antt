use Rattle.std.proofs.Common.{rules, ◌≡◌, sym, ap, refl, subst, arith}
use Rattle.mp_core.specs.Unpacked.{unpacked}
use Rattle.mp_plain.specs.declared.ledger.Opening.{Opening}
use Rattle.mp_plain.specs.declared.ledger.Ruled.{Ruled}
use Rattle.mp_plain.specs.Lanes.{ruled_begun}
use Rattle.mp_plain.specs.Stands.{Stands, units_of}
use Rattle.mp_plain.proofs.Opening.{begun_stands}
use Rattle.mp_plain.proofs.plain.Plain.make.Goals as goal

pub invariant_of-result : goal.invariant_of-result
invariant_of-result c =
    let o : Opening = record { words = c.args.words.now; allowance = c.args.allowance } in
    let known : c.in-Ok.ledger.seat.me.0 ≡ ruled_begun o = c.in-Ok.ensures in
    record {
      range = (let e = c.first_lane.ensures in omega arith);
      units = ap (λ (x : Ruled). units_of x.seats) known;
      packed = c.requires.packed;
      same = c.of_words.ensures;
      rule = subst (Stands (unpacked c.args.words.now)) (sym known) (begun_stands o c.requires.lawful c.requires.room);
    }
