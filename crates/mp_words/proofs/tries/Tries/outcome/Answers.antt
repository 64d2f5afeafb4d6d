use Rattle.std.proofs.Common.{◌<◌, Some, None, length, sym, ap, ◌∙◌, arith}
use Rattle.std.specs.Prelude.{option_map}
use Rattle.mp_words.specs.KeptTry.{no_try}
use Rattle.mp_words.specs.Request.{outcome_of, tried_of}
use Rattle.mp_words.proofs.Last.{last_or-map}
use Rattle.mp_words.proofs.ToldTries.{last-below, last-told, same-at}
use Rattle.mp_words.proofs.tries.Tries.outcome.Goals as goal

pub index-requires : goal.index-requires
index-requires c = last-below _ 0 c.self.inside.kept.items _ c.self.invariant.0 (sym c.last.ensures ∙ c.in-Some-Whole.is ∙ ap Some c.in-Some-Whole.field-0-is)

pub returns-in-Some-Again : goal.returns-in-Some-Again
returns-in-Some-Again c =
    let s = c.self.inside in
    let last = last-told c.args.self.now.items s.whole.items s.kept.items _ (ap (λ v. v.items) c.self.view_is) (sym c.last.ensures ∙ c.in-Some-Again.is ∙ ap Some c.in-Some-Again.field-0-is) in
    ap outcome_of (sym (last_or-map tried_of c.args.self.now.items ∙ ap (option_map tried_of) last))

pub returns-in-Some-Whole : goal.returns-in-Some-Whole
returns-in-Some-Whole c =
    let s = c.self.inside in
    let at = sym c.last.ensures ∙ c.in-Some-Whole.is ∙ ap Some c.in-Some-Whole.field-0-is in
    let low = last-below _ 0 s.kept.items _ c.self.invariant.0 at in
    let within : c.in-Some-Whole.place < length s.whole.items = omega (arith, low) in
    let found = same-at s.whole.items c.in-Some-Whole.place no_try c.index.result.now within c.index.ensures in
    let last = last-told c.args.self.now.items s.whole.items s.kept.items _ (ap (λ v. v.items) c.self.view_is) at in
    c.outcome_after.ensures
    ∙ ap (λ t. outcome_of (Some (tried_of t))) (sym found)
    ∙ ap outcome_of (sym (last_or-map tried_of c.args.self.now.items ∙ ap (option_map tried_of) last))

pub returns-in-None : goal.returns-in-None
returns-in-None c =
    let s = c.self.inside in
    let last = last-told c.args.self.now.items s.whole.items s.kept.items None (ap (λ v. v.items) c.self.view_is) (sym c.last.ensures ∙ c.in-None.is) in
    ap outcome_of (sym (last_or-map tried_of c.args.self.now.items ∙ ap (option_map tried_of) last))
