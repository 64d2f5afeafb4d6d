use Rattle.std.proofs.Common.{◌≡◌, ◌+◌, ◌-◌, length, sym, arith}
use Rattle.mp_words.proofs.Last.{last_or-at}
use Rattle.mp_words.proofs.tries.Tries.last.Goals as goal

pub returns-else-len-eq0 : goal.returns-else-len-eq0
returns-else-len-eq0 c =
    let n = c.len-len.result - 1 in
    let len : length c.args.self.now.items ≡ n + 1 = omega (arith, c.len-len.ensures) in
    sym (last_or-at c.args.self.now.items n c.at.result len c.at.ensures)
