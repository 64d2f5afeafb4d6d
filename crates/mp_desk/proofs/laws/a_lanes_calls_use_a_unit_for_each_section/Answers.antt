use Rattle.mp_desk.proofs.Gaining.{breaks_use, calls_use, stops_use}
use Rattle.mp_desk.proofs.laws.a_lanes_calls_use_a_unit_for_each_section.Goals as goal

pub returns-clause-done : goal.returns-clause-done
returns-clause-done c = calls_use

pub returns-clause-stopped : goal.returns-clause-stopped
returns-clause-stopped c = stops_use

pub returns-clause-broken : goal.returns-clause-broken
returns-clause-broken c = breaks_use
