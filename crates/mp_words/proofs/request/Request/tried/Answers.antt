use Rattle.std.proofs.Common.{map, ap, sym, subst, ◌∙◌}
use Rattle.std.specs.List.{AllByRecursion}
use Rattle.mp_words.specs.Request.{attempts_of, tried_of, IsShort}
use Rattle.mp_words.proofs.ToldTries.{attempts-more, short-more}
use Rattle.mp_words.proofs.request.Request.tried.Goals as goal

pub invariant_of-self : goal.invariant_of-self
invariant_of-self c =
    let s = c.self.inside in
    let items = c.push.ensures.items in (
      c.push.ensures.most,
      c.self.invariant.1 ∙ sym (attempts-more s.tries.items c.args.made c.requires.count) ∙ ap (λ ts. attempts_of (map tried_of ts)) (sym items),
      subst (AllByRecursion IsShort) (sym items) (short-more s.tries.items c.args.made c.self.invariant.2 c.requires.count),
    )
