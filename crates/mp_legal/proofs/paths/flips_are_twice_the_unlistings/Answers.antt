use Rattle.mp_legal.proofs.FitOpening.{run_counted}
use Rattle.mp_legal.proofs.paths.flips_are_twice_the_unlistings.Goals as goal

pub returns : goal.returns
returns c = λ i lanes before behind call read is. run_counted (record { numa = c.what_is_chosen_is_usable.ensures.numa; round_robin = c.what_is_chosen_is_usable.ensures.round_robin; queue_depth = c.what_is_chosen_is_usable.ensures.queue_depth }) i lanes before behind call read is
