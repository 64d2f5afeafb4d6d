use Rattle.std.proofs.Common.{◌≡◌, ◌+◌, ◌-◌, length, sym, ap, arith}
use Rattle.mp_words.proofs.Last.{last_or-at}
use Rattle.mp_words.proofs.Wholes.{kept-length}
use Rattle.mp_words.proofs.keeps.Keeps.last.Goals as goal

pub at-requires : goal.at-requires
at-requires c =
    let s = c.self.inside in
    omega (arith, c.if-self-eq0.false, kept-length s.count s.kept.items c.self.invariant.1, ap (λ v. length v.items) c.self.view_is)

pub returns-else-self-eq0 : goal.returns-else-self-eq0
returns-else-self-eq0 c =
    let s = c.self.inside in
    let len : length c.args.self.now.items ≡ (s.count - 1) + 1 = omega (arith, c.if-self-eq0.false, kept-length s.count s.kept.items c.self.invariant.1, ap (λ v. length v.items) c.self.view_is) in
    sym (last_or-at c.args.self.now.items (s.count - 1) c.at.result len c.at.ensures)
