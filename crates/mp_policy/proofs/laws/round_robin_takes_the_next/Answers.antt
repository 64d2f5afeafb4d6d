use Rattle.mp_policy.proofs.Next.{takes_the_next}
use Rattle.mp_policy.proofs.laws.round_robin_takes_the_next.Goals as goal

pub returns : goal.returns
returns c = λ slot paths walk last path w h. takes_the_next slot paths walk last path w h
