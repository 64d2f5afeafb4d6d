use Rattle.std.proofs.Common.{refl, arith}
use Rattle.mp_record.proofs.Packing.{packing-apart, packing-small}
use Rattle.mp_record.proofs.packed.move_to.Goals as goal

pub returns-in-Apart-clause-packs : goal.returns-in-Apart-clause-packs
returns-in-Apart-clause-packs c = λ ks es is.
    packing-apart ks es c.args.place c.args.count c.args.kept.now.items c.args.apart.now.items c.index.result.now c.in-Apart.from c.index-in-Apart.result.now is
    (omega (arith, c.requires.place)) c.index.ensures c.in-Apart.is c.index-in-Apart.ensures

pub returns-in_default : goal.returns-in_default
returns-in_default c = record {
  packs = λ ks es is. packing-small ks es c.args.place c.args.count c.args.kept.now.items c.args.apart.now.items c.index.result.now is (omega (arith, c.requires.place)) c.index.ensures c.in_default.not-Apart;
  kept = refl;
  apart = refl;
  kept_room = refl;
  apart_room = refl;
}
