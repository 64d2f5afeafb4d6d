use Rattle.std.proofs.Common.{length, sym, ap, ◌∙◌}
use Rattle.mp_words.proofs.Wholes.{kept-length}
use Rattle.mp_words.proofs.keeps.Keeps.len.Goals as goal

pub returns-clause-number : goal.returns-clause-number
returns-clause-number c = sym (kept-length c.self.inside.count c.self.inside.kept.items c.self.invariant.1) ∙ ap (λ v. length v.items) c.self.view_is
