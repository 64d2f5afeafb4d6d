use Rattle.mp_legal.proofs.FitOpening.{run_lists}
use Rattle.mp_legal.proofs.paths.lists_fit.Goals as goal

pub returns : goal.returns
returns c = λ i lanes read. run_lists (record { numa = c.what_is_chosen_is_usable.ensures.numa; round_robin = c.what_is_chosen_is_usable.ensures.round_robin; queue_depth = c.what_is_chosen_is_usable.ensures.queue_depth }) i lanes read
