use Rattle.std.proofs.Common.{◌≡◌, ◌-◌, length, suc, get_or, arith}
use Rattle.mp_words.specs.Request.{ended_try}
use Rattle.mp_words.proofs.Last.{set-map_last}
use Rattle.mp_words.proofs.tries.end_last.Goals as goal

pub returns-clause-tries : goal.returns-clause-tries
returns-clause-tries c =
    let tries = c.args.tries.now.items in
    let n = c.len-last.result - 1 in
    let len : length tries ≡ suc n = omega arith in
    let at : c.index_mut-made.result.now ≡ get_or tries n c.index_mut-made.result.now = cc in
    let e = set-map_last (ended_try c.args.statuses c.args.count c.args.back) tries n c.index_mut-made.result.now len in
    rw (← at) at e
