use Rattle.std.proofs.Common.{◌≡◌, ◌+◌, length, ap, arith}
use Rattle.std.proofs.lemmas.Bool.Decides.{nat_tests}
use Rattle.mp_words.proofs.Wholes.{counted-none, kept-length}
use Rattle.mp_words.proofs.keeps.Keeps.push.Goals as goal

pub invariant_of-self : goal.invariant_of-self
invariant_of-self c =
    let s = c.self.inside in
    let none : length s.kept.items ≡ 0 = grind (arith, nat_tests) in
    (omega (arith, c.requires.few, kept-length s.count s.kept.items c.self.invariant.1, ap (λ v. length v.items) c.self.view_is), counted-none (s.count + 1) s.kept.items none)
