use Rattle.mp_desk.proofs.Gaining.{breaks_gain, calls_gain, ends_all_gain, stops_gain}
use Rattle.mp_desk.proofs.laws.calls_note_what_the_pass_gains.Goals as goal

pub returns-clause-done : goal.returns-clause-done
returns-clause-done c = calls_gain

pub returns-clause-stopped : goal.returns-clause-stopped
returns-clause-stopped c = stops_gain

pub returns-clause-ended : goal.returns-clause-ended
returns-clause-ended c = ends_all_gain

pub returns-clause-broken : goal.returns-clause-broken
returns-clause-broken c = breaks_gain
