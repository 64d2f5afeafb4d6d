use Rattle.mp_legal.specs.Inputs.{inputs_for}
use Rattle.mp_run.proofs.BoundRun.{run_within}
use Rattle.mp_run.proofs.unit_laws.runs_within_their_bound_are_not_spent.Goals as goal

pub returns : goal.returns
returns c = λ allowance world script topology is over within.
    run_within (record { numa = c.none_is_chosen_where_none_is_usable.ensures.numa; round_robin = c.none_is_chosen_where_none_is_usable.ensures.round_robin; queue_depth = c.none_is_chosen_where_none_is_usable.ensures.queue_depth })
    allowance world script is
    (c.calls_use_at_most_their_needs.ensures (inputs_for world script) script.lanes (c.worlds_are_read.ensures world script topology))
    (c.listed_tries_find_no_usable_path.ensures (inputs_for world script) script.lanes)
    (λ some. c.untouched_paths_stay_usable.ensures world script topology over some)
    (λ le. c.sixteen_more_than_all_are_enough.ensures allowance (inputs_for world script) script.lanes is.few_lanes le)
    within
