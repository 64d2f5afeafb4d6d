use Rattle.mp_run.proofs.BoundRun.{run_listings}
use Rattle.mp_run.proofs.unit_laws.listings_are_few.Goals as goal

pub returns : goal.returns
returns c = λ i lanes few distinct.
    run_listings (record { numa = c.none_is_chosen_where_none_is_usable.ensures.numa; round_robin = c.none_is_chosen_where_none_is_usable.ensures.round_robin; queue_depth = c.none_is_chosen_where_none_is_usable.ensures.queue_depth })
    i lanes few distinct
