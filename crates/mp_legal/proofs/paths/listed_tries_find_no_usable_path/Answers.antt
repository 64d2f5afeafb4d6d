use Rattle.mp_legal.proofs.Untouched.{run_lists_none}
use Rattle.mp_legal.proofs.paths.listed_tries_find_no_usable_path.Goals as goal

pub returns : goal.returns
returns c = λ i lanes. run_lists_none (record { numa = c.none_is_chosen_where_none_is_usable.ensures.numa; round_robin = c.none_is_chosen_where_none_is_usable.ensures.round_robin; queue_depth = c.none_is_chosen_where_none_is_usable.ensures.queue_depth }) i lanes
