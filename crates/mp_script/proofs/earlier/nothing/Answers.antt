use Rattle.std.proofs.Common.{refl}
use Rattle.mp_script.specs.Before.{before}
use Rattle.mp_script.proofs.earlier.nothing.Goals as goal

pub returns-clause-known : goal.returns-clause-known
unfolding before
returns-clause-known c = record { lanes = refl; in_keeper = refl; had_keeper = refl; submitted = λ n. rw c.in_ok-make.ensures refl; answered = c.make-2.ensures }
