use Rattle.mp_policy.proofs.Next.{begins_with_the_first}
use Rattle.mp_policy.proofs.laws.round_robin_begins_with_the_first.Goals as goal

pub returns : goal.returns
returns c = λ last paths path unlisted h. begins_with_the_first last paths path unlisted h
