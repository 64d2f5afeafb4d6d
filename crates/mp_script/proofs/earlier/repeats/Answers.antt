use Rattle.std.proofs.Common.{◌≡◌}
use Rattle.mp_words.specs.Answers.{is_of}
use Rattle.mp_script.specs.Splitting.{number_of}
use Rattle.mp_script.specs.Before.{repeats}
use Rattle.mp_words.proofs.Rising.{any_in_order}
use Rattle.mp_script.proofs.earlier.repeats.Goals as goal

pub returns-in-Answer-clause-repeats : goal.returns-in-Answer-clause-repeats
unfolding repeats
returns-in-Answer-clause-repeats c = λ b k.
    let given : (c.args.numbers.now.first ≡ number_of c.in-Answer.field-0.now) × (c.args.numbers.now.second ≡ number_of c.in-Answer.field-1.now) = rw c.in-Answer.is at c.requires.given in
    rw (c.in-Answer.is, c.has-in-Answer.ensures, c.small-in-Answer.ensures.value, c.small.ensures.value, given.0, given.1, k.answered) (any_in_order (is_of _ _) b.answered)
