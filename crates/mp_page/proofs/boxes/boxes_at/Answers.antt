use Rattle.std.proofs.Common.{arith, ◌<◌, ◌≡◌, length, map, vec_len}
use Rattle.std.proofs.lemmas.List.{map-append}
use Rattle.std.proofs.lemmas.Bool.Decides.{nat_tests}
use Rattle.std.proofs.lemmas.Result.{err_from_is_err_and}
use Rattle.mp_page.proofs.BoxLaws.{boxes_full, boxes_stop, boxes_fault, boxes_found, box_known}
use Rattle.mp_page.proofs.boxes.boxes_at.Goals as goal

pub returns-then-len-most : goal.returns-then-len-most
returns-then-len-most c =
    let some : 0 < length c.loop-rest.rest.now = grind (arith, nat_tests, c.is_empty.ensures, c.loop-rest-test.true) in
    let n = vec_len c.loop-rest.boxes in
    let full : n ≡ c.args.most = omega (arith, c.len.ensures, c.if-len-most.true) in
    λ e. boxes_full c.args.most n c.loop-rest.offset c.loop-rest.rest.now _ some full c.loop-rest.invariant.fault

pub returns-in_err-page : goal.returns-in_err-page
returns-in_err-page c =
    let some : 0 < length c.loop-rest.rest.now = grind (arith, nat_tests, c.is_empty.ensures, c.loop-rest-test.true) in
    let n = vec_len c.loop-rest.boxes in
    let lt : n < c.args.most = omega (arith, c.len.ensures, c.if-len-most.false) in
    let p = err_from_is_err_and c.from_residual.result c.from_residual.ensures.1 in
    rw (p.1, p.2) (λ e. boxes_stop c.args.most n c.loop-rest.offset c.loop-rest.rest.now _ c.in_err-page.field-0.0 some lt c.loop-rest.invariant.fault (c.in_err-page.ensures.read e))

pub loop-rest-preserved : goal.loop-rest-preserved
loop-rest-preserved c =
    let some : 0 < length c.loop-rest.rest.now = omega arith in
    let n = vec_len c.loop-rest.boxes in
    let lt : n < c.args.most = omega (arith, c.len.ensures, c.if-len-most.false) in
    let s = box_known c.loop-rest.offset c.loop-rest.rest.now c.in_ok-page.page.items c.in_ok-page.ensures.read.0 c.in_ok-page.ensures.read.1 in
    record {
      whole = omega (arith, c.split_at.ensures.back_len, c.loop-rest.invariant.whole);
      low = omega (arith, c.in_ok-push.ensures.len, c.loop-rest.invariant.low, c.in_ok-page.ensures.short, c.len-size.ensures);
      few = omega (arith, c.in_ok-push.ensures.len);
      fault = rw (c.in_ok-push.ensures.len, c.split_at.ensures.back) (boxes_fault c.args.most n c.loop-rest.offset _ c.loop-rest.rest.now _ some lt c.loop-rest.invariant.fault c.in_ok-page.ensures.read.0 (omega (arith, s, c.len-size.ensures)));
      found = rw (c.in_ok-push.ensures.len, c.in_ok-push.ensures.items, map-append, c.split_at.ensures.back) (boxes_found (map (λ v. v.items) c.loop-rest.boxes.items) c.args.most n _ c.loop-rest.rest.now c.in_ok-page.page.items _ some lt c.loop-rest.invariant.found c.in_ok-page.ensures.read.1 (omega (arith, s, c.len-size.ensures)));
    }
