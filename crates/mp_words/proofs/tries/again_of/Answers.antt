use Rattle.std.proofs.Common.{◌≡◌, sym, subst}
use Rattle.std.specs.Prelude.{IfSome}
use Rattle.mp_words.specs.KeptTry.{as_again}
use Rattle.mp_words.specs.Like.{Tells}
use Rattle.mp_words.proofs.ToldTries.{last-found}
use Rattle.mp_words.proofs.tries.again_of.Goals as goal

pub returns-else-is_again-clause-exact : goal.returns-else-is_again-clause-exact
returns-else-is_again-clause-exact c = λ none.
    let made = c.args.made.now in
    let last = last-found c.args.whole.now c.in_ok-last.last.now c.in_ok-last.ensures.value in
    let other = subst (λ b. Tells b (as_again made.hop made.note.ticket c.in_ok-last.last.now) made) c.if-is_again.false c.is_again.ensures in
    subst (λ o. IfSome o (λ t. as_again made.hop made.note.ticket t ≡ made → ⊥)) (sym last) other
