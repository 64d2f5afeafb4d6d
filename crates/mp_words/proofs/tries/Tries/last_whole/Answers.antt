use Rattle.std.proofs.Common.{◌≡◌, ◌<◌, Some, None, length, refl, sym, ap, subst, ◌∙◌, arith}
use Rattle.std.specs.Prelude.{IfSome}
use Rattle.mp_words.specs.declared.trying.Try.{Try}
use Rattle.mp_words.specs.declared.trying.TryEnd.TheVariants as end
use Rattle.mp_words.specs.KeptTry.{no_try}
use Rattle.mp_words.proofs.ToldTries.{last-below, last-told, same-at}
use Rattle.mp_words.proofs.tries.Tries.last_whole.Goals as goal

pub index-requires : goal.index-requires
index-requires c = last-below _ 0 c.self.inside.kept.items _ c.self.invariant.0 (sym c.last.ensures ∙ c.in-Some-Whole.is ∙ ap Some c.in-Some-Whole.field-0-is)

pub returns-in-Some-Whole-clause-last : goal.returns-in-Some-Whole-clause-last
returns-in-Some-Whole-clause-last c =
    let s = c.self.inside in
    let at = sym c.last.ensures ∙ c.in-Some-Whole.is ∙ ap Some c.in-Some-Whole.field-0-is in
    let low = last-below _ 0 s.kept.items _ c.self.invariant.0 at in
    let within : c.in-Some-Whole.place < length s.whole.items = omega (arith, low) in
    let found = same-at s.whole.items c.in-Some-Whole.place no_try c.index.result.now within c.index.ensures in
    last-told c.args.self.now.items s.whole.items s.kept.items _ (ap (λ v. v.items) c.self.view_is) at ∙ ap Some found

pub returns-in-Some-Again-clause-listed : goal.returns-in-Some-Again-clause-listed
returns-in-Some-Again-clause-listed c = λ _.
    let s = c.self.inside in
    let last = last-told c.args.self.now.items s.whole.items s.kept.items _ (ap (λ v. v.items) c.self.view_is) (sym c.last.ensures ∙ c.in-Some-Again.is ∙ ap Some c.in-Some-Again.field-0-is) in
    subst (λ o. IfSome o (λ (t : Try). t.end ≡ end.Listed)) (sym last) refl

pub returns-in-None-clause-listed : goal.returns-in-None-clause-listed
returns-in-None-clause-listed c = λ _.
    let s = c.self.inside in
    let last = last-told c.args.self.now.items s.whole.items s.kept.items None (ap (λ v. v.items) c.self.view_is) (sym c.last.ensures ∙ c.in-None.is) in
    subst (λ o. IfSome o (λ (t : Try). t.end ≡ end.Listed)) (sym last) tt
