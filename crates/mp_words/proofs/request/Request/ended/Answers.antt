use Rattle.std.proofs.Common.{◌≡◌, length, map, ap, sym, subst, arith}
use Rattle.std.specs.Prelude.{None}
use Rattle.std.specs.List.{last_or, AllByRecursion}
use Rattle.mp_words.specs.declared.trying.Outcome.TheVariants.{Sent}
use Rattle.mp_words.specs.Request.{attempts_of, outcome_of, tried_of, IsShort}
use Rattle.mp_words.proofs.ToldTries.{attempts-ended, attempts-few, short-ended}
use Rattle.mp_words.proofs.request.Request.ended.Goals as goal

pub overflow_add-self : goal.overflow_add-self
overflow_add-self c = omega (arith, c.self.invariant.0, c.self.invariant.1, attempts-few c.self.inside.tries.items c.self.invariant.2, c.requires.high, c.from.ensures)

pub invariant_of-self : goal.invariant_of-self
invariant_of-self c =
    let s = c.self.inside in
    let items = c.end_last.ensures.items in
    let six : length c.args.statuses ≡ 6 = omega arith in
    let sent = subst (λ v. outcome_of (last_or None (map tried_of v.tries)) ≡ Sent) (sym c.self.view_is) c.requires.sent in (
      c.end_last.ensures.most,
      omega (arith, c.self.invariant.1, c.from.ensures, ap (λ ts. attempts_of (map tried_of ts)) items, attempts-ended c.args.statuses c.args.count c.args.back s.tries.items six c.requires.high sent),
      subst (AllByRecursion IsShort) (sym items) (short-ended c.args.statuses c.args.count c.args.back s.tries.items c.requires.high c.self.invariant.2),
    )
