use Rattle.std.proofs.Common.{◌≡◌, ◌<◌, Some, length, refl, sym, ap, subst, ◌∙◌, arith}
use Rattle.std.specs.Prelude.{IfSome}
use Rattle.mp_words.specs.declared.trying.Try.{Try}
use Rattle.mp_words.specs.KeptTry.{no_try}
use Rattle.mp_words.proofs.ToldTries.{told-there, kept-there, same-at}
use Rattle.mp_words.proofs.tries.Tries.count_at.Goals as goal

pub index-requires : goal.index-requires
index-requires c =
    let s = c.self.inside in
    kept-there _ s.kept.items c.args.place _ c.self.invariant.0 (c.at.ensures ∙ ap Some c.in-Whole.is)

pub returns-in-Whole : goal.returns-in-Whole
returns-in-Whole c =
    let s = c.self.inside in
    let kept = c.at.ensures ∙ ap Some c.in-Whole.is in
    let low = kept-there _ s.kept.items c.args.place _ c.self.invariant.0 kept in
    let within : c.in-Whole.place < length s.whole.items = omega (arith, low) in
    let found = same-at s.whole.items c.in-Whole.place no_try c.index.result.now within c.index.ensures in
    let there = told-there c.args.self.now.items s.whole.items s.kept.items c.args.place _ (ap (λ v. v.items) c.self.view_is) kept in
    subst (λ o. IfSome o (λ t. c.index.result.now.count ≡ t.count)) (sym (there ∙ ap Some found)) refl

pub returns-in-Again : goal.returns-in-Again
returns-in-Again c =
    let s = c.self.inside in
    let there = told-there c.args.self.now.items s.whole.items s.kept.items c.args.place _ (ap (λ v. v.items) c.self.view_is) (c.at.ensures ∙ ap Some c.in-Again.is) in
    subst (λ o. IfSome o (λ (t : Try). 0 ≡ t.count)) (sym there) refl
