use Rattle.std.proofs.Common.{length, map, refl, sym, ap, subst, ◌∙◌, arith}
use Rattle.mp_record.specs.Kept.{told, ArePlainIn}
use Rattle.mp_record.proofs.Packing.{packing, packed}
use Rattle.mp_record.proofs.packed.pack.Goals as goal

pub loop-place-init : goal.loop-place-init
loop-place-init c = (packing c.args.kept.now.items c.args.apart.now.items c.requires.plain, refl, refl, refl, refl)

pub move_to-count-requires-clause-plain : goal.move_to-count-requires-clause-plain
move_to-count-requires-clause-plain c = c.loop-place.invariant.0.rest

pub loop-place-preserved : goal.loop-place-preserved
loop-place-preserved c =
    let i = c.loop-place.invariant in
    let e = c.move_to-count.ensures in
    (e.packs c.args.kept.now.items c.args.apart.now.items i.0, e.kept ∙ i.1, e.apart ∙ i.2, e.kept_room ∙ i.3, e.apart_room ∙ i.4)

pub returns-clause-told : goal.returns-clause-told
returns-clause-told c =
    let now = c.loop-place.kept.items in
    let end = packed c.args.kept.now.items c.args.apart.now.items c.loop-place.place c.loop-place.count now c.loop-place.apart.items c.loop-place.invariant.0 (omega (arith, c.loop-place-test.false, c.len-place-end.ensures, c.loop-place.invariant.1)) in
    ap (λ es. map (told es) now) c.truncate.ensures.items ∙ end.0

pub returns-clause-plain : goal.returns-clause-plain
returns-clause-plain c =
    let now = c.loop-place.kept.items in
    let end = packed c.args.kept.now.items c.args.apart.now.items c.loop-place.place c.loop-place.count now c.loop-place.apart.items c.loop-place.invariant.0 (omega (arith, c.loop-place-test.false, c.len-place-end.ensures, c.loop-place.invariant.1)) in
    subst (λ es. ArePlainIn (length es) 0 now) (sym c.truncate.ensures.items) end.1
