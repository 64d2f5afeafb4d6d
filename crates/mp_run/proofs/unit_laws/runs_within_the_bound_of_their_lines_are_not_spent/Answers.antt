use Rattle.mp_run.proofs.BoundRun.{run_within_lines}
use Rattle.mp_run.proofs.unit_laws.runs_within_the_bound_of_their_lines_are_not_spent.Goals as goal

pub returns : goal.returns
returns c = λ allowance i lanes read few distinct within.
    run_within_lines (record { numa = c.none_is_chosen_where_none_is_usable.ensures.numa; round_robin = c.none_is_chosen_where_none_is_usable.ensures.round_robin; queue_depth = c.none_is_chosen_where_none_is_usable.ensures.queue_depth })
    allowance i lanes few distinct
    (c.calls_use_at_most_their_needs.ensures i lanes read)
    (λ le. c.sixteen_more_than_all_are_enough.ensures allowance i lanes few le)
    within
