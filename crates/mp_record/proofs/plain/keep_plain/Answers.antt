use Rattle.std.proofs.Common.{◌<◌, length, sym, ◌∙◌, arith}
use Rattle.std.proofs.lemmas.List.Filters.{FiltersInPlace-all, FiltersInPlace-more_no, FiltersInPlace-more_set}
use Rattle.mp_record.proofs.PlainIn.{rest-below}
use Rattle.mp_record.proofs.plain.keep_plain.Goals as goal
use Rattle.mp_record.proofs.plain.keep_plain.Goals.{then-tells_plain, else-tells_plain}

pub tells_plain-requires : goal.tells_plain-requires
tells_plain-requires c =
    let i = c.loop-place.invariant in
    rest-below (length c.args.apart.now) c.args.kept.now.items c.loop-place.kept.items c.loop-place.place c.index.result.now c.requires i.0.rest
    (omega (arith, c.loop-place-test.true, c.len-place-end.ensures, i.1)) c.index.ensures

pub index_mut-requires : goal.index_mut-requires
index_mut-requires c =
    let i = c.loop-place.invariant in
    omega (arith, i.0.behind, c.loop-place-test.true, c.len-place-end.ensures, i.1)

pub overflow_add-count : goal.overflow_add-count
overflow_add-count c =
    let i = c.loop-place.invariant in
    omega (arith, i.0.behind, c.loop-place-test.true, c.len-place-end.type_inv)

pub loop-place-preserved : goal.loop-place-preserved
loop-place-preserved c =
    let i = c.loop-place.invariant in
    let within : c.loop-place.place < length c.loop-place.kept.items = omega (arith, c.loop-place-test.true, c.len-place-end.ensures, i.1) in
    elim c.if-tells_plain.branch [
      | then-tells_plain w ↦ rw (w.kept-is, w.count-is) (FiltersInPlace-more_set i.0 within (sym c.tells_plain.ensures ∙ w.if-tells_plain.true) c.index.ensures, i.1, i.2)
      | else-tells_plain w ↦ rw (w.kept-is, w.count-is) (FiltersInPlace-more_no i.0 within (sym c.tells_plain.ensures ∙ w.if-tells_plain.false) c.index.ensures, i.1, i.2)
    ]

pub returns-clause-items : goal.returns-clause-items
returns-clause-items c =
    let i = c.loop-place.invariant in
    c.truncate.ensures.items ∙ FiltersInPlace-all i.0 (omega (arith, c.loop-place-test.false, c.len-place-end.ensures, i.1))
