use Rattle.std.proofs.Common.{arith}
use Rattle.std.proofs.lemmas.Result.{err_from_is_err_and}
use Rattle.mp_page.proofs.Steps.{groups_stop, groups_fault, groups_found, size_known}
use Rattle.mp_page.proofs.reading.groups_at.Goals as goal

pub returns-in_err-group : goal.returns-in_err-group
returns-in_err-group c =
    let p = err_from_is_err_and c.from_residual.result c.from_residual.ensures.1 in
    rw (p.1, p.2) (λ n. groups_stop c.args.max c.args.count c.loop.counter c.loop.offset c.loop.rest.now _ c.in_err-group.field-0.0 c.loop-test.true c.loop.invariant.fault (c.in_err-group.ensures n))

pub split_at-requires : goal.split_at-requires
split_at-requires c =
    let s = size_known c.args.max c.loop.offset c.loop.rest.now c.in_ok-group.group c.in_ok-group.ensures.0 c.in_ok-group.ensures.1 in
    omega (arith, s, c.len.ensures)

pub loop-preserved : goal.loop-preserved
loop-preserved c =
    let s = size_known c.args.max c.loop.offset c.loop.rest.now c.in_ok-group.group c.in_ok-group.ensures.0 c.in_ok-group.ensures.1 in
    record {
      whole = omega (arith, c.split_at.ensures.back_len, c.loop.invariant.whole);
      fault = rw c.split_at.ensures.back (groups_fault c.args.max c.args.count c.loop.counter c.loop.offset _ c.loop.rest.now _ c.loop-test.true c.loop.invariant.fault c.in_ok-group.ensures.0 (omega (arith, s, c.len.ensures)));
      found = rw (c.in_ok-push.ensures.items, c.split_at.ensures.back) (groups_found c.loop.groups.items c.args.count c.loop.counter _ c.loop.rest.now c.in_ok-group.group _ c.loop-test.true c.loop.invariant.found c.in_ok-group.ensures.1 (omega (arith, s, c.len.ensures)));
    }
