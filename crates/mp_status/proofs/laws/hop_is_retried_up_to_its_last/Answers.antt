use Rattle.mp_status.proofs.Hops.{hop_is_retried}
use Rattle.mp_status.proofs.laws.hop_is_retried_up_to_its_last.Goals as goal

pub returns : goal.returns
returns c = λ status_at attempt. hop_is_retried status_at attempt
