use Rattle.std.proofs.Common.{◌<◌, Some, length, sym, ap, ◌∙◌, arith}
use Rattle.mp_words.specs.KeptTry.{no_try, as_again}
use Rattle.mp_words.proofs.ToldTries.{told-there, kept-there, same-at}
use Rattle.mp_words.proofs.tries.Tries.at.Goals as goal

pub index-requires : goal.index-requires
index-requires c =
    let s = c.self.inside in
    kept-there _ s.kept.items c.args.place _ c.self.invariant.0 (c.at.ensures ∙ ap Some c.in-Whole.is)

pub index-requires-in-Again : goal.index-requires-in-Again
index-requires-in-Again c =
    let s = c.self.inside in
    kept-there _ s.kept.items c.args.place _ c.self.invariant.0 (c.at.ensures ∙ ap Some c.in-Again.is)

pub returns-in-Whole : goal.returns-in-Whole
returns-in-Whole c =
    let s = c.self.inside in
    let kept = c.at.ensures ∙ ap Some c.in-Whole.is in
    let low = kept-there _ s.kept.items c.args.place _ c.self.invariant.0 kept in
    let within : c.in-Whole.place < length s.whole.items = omega (arith, low) in
    let found = same-at s.whole.items c.in-Whole.place no_try c.index.result.now within c.index.ensures in
    told-there c.args.self.now.items s.whole.items s.kept.items c.args.place _ (ap (λ v. v.items) c.self.view_is) kept ∙ ap Some found

pub returns-in-Again : goal.returns-in-Again
returns-in-Again c =
    let s = c.self.inside in
    let kept = c.at.ensures ∙ ap Some c.in-Again.is in
    let low = kept-there _ s.kept.items c.args.place _ c.self.invariant.0 kept in
    let within : c.in-Again.like < length s.whole.items = omega (arith, low) in
    let found = same-at s.whole.items c.in-Again.like no_try c.index-in-Again.result.now within c.index-in-Again.ensures in
    told-there c.args.self.now.items s.whole.items s.kept.items c.args.place _ (ap (λ v. v.items) c.self.view_is) kept
    ∙ ap (λ t. Some (as_again c.in-Again.hop c.in-Again.ticket t)) found ∙ ap Some (sym c.again.ensures)
