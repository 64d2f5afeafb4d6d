use Rattle.std.proofs.Common.{◌≡◌, length, vec_len, map, ap, sym, subst, ◌∙◌, arith}
use Rattle.std.specs.Prelude.{None}
use Rattle.std.specs.List.{last_or}
use Rattle.mp_words.specs.declared.trying.Outcome.TheVariants.{Sent}
use Rattle.mp_words.specs.KeptTry.{told, AreFit}
use Rattle.mp_words.specs.Request.{outcome_of, tried_of, ended_try, ended_tries}
use Rattle.mp_words.proofs.ToldTries.{sent-some, told-end}
use Rattle.mp_words.proofs.tries.Tries.end_last.Goals as goal

pub end_last-requires : goal.end_last-requires
end_last-requires c =
    sent-some c.self.inside.whole.items (vec_len c.self.inside.whole) c.self.inside.kept.items c.self.invariant.0
    (subst (λ v. outcome_of (last_or None (map tried_of v.items)) ≡ Sent) (sym c.self.view_is) c.requires)

pub returns-clause-items : goal.returns-clause-items
returns-clause-items c =
    let ks = c.self.inside.kept.items in
    let whole = c.self.inside.whole.items in
    let len : vec_len c.self.inside.whole ≡ length whole = omega arith in
    let fit = subst (λ n. AreFit n 0 ks) len c.self.invariant.0 in
    let sent = subst (λ v. outcome_of (last_or None (map tried_of v.items)) ≡ Sent) (sym c.self.view_is) c.requires in
    ap (λ ts. map (told ts) ks) c.end_last.ensures.tries
    ∙ told-end (ended_try c.args.statuses c.args.count c.args.back) whole ks fit sent
    ∙ ap (λ v. ended_tries c.args.statuses c.args.count c.args.back v.items) c.self.view_is
