use Rattle.std.proofs.Common.{◌≡◌, ◌-◌, ◌<◌, take, length, suc, refl, arith}
use Rattle.std.proofs.lemmas.List.{length-take, get_or-take}
use Rattle.mp_words.proofs.Last.{last_or-get_or}
use Rattle.mp_words.proofs.tries.done_with.Goals as goal

pub returns-else-count-eq0 : goal.returns-else-count-eq0
returns-else-count-eq0 c =
    let n = c.min-count.result - 1 in
    let len : length (take c.args.count c.args.statuses.now) ≡ suc n = omega (arith, length-take c.args.count c.args.statuses.now) in
    let below : n < c.args.count = omega arith in
    rw (last_or-get_or (take c.args.count c.args.statuses.now) n 0 len, get_or-take c.args.count c.args.statuses.now n 0 below) refl
