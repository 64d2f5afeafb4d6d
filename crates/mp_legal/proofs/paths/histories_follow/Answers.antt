use Rattle.mp_legal.proofs.FitOpening.{run_histories}
use Rattle.mp_legal.proofs.paths.histories_follow.Goals as goal

pub returns : goal.returns
returns c = λ i lanes read. run_histories (record { numa = c.what_is_chosen_is_usable.ensures.numa; round_robin = c.what_is_chosen_is_usable.ensures.round_robin; queue_depth = c.what_is_chosen_is_usable.ensures.queue_depth }) i lanes read
