use Rattle.std.proofs.Common.{ap, Err}
use Rattle.mp_run.proofs.Asking.{reads_ran_out}
use Rattle.mp_run.proofs.top.answer.Goals as goal

pub returns-in-Err-clause-read_before : goal.returns-in-Err-clause-read_before
returns-in-Err-clause-read_before g c = λ files i told is.
    rw (← c.in-Some.ensures) (c.in-Err.ensures.before files i told (ap Err is))

pub returns-clause-named : goal.returns-clause-named
returns-clause-named g c = reads_ran_out _ _ _ (rw (← c.in-Some.ensures) c.in-Ok.ensures.named)
