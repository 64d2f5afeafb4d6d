use Rattle.mp_policy.proofs.FirstNearest.{nearest_choice-is}
use Rattle.mp_policy.proofs.laws.queue_depth_takes_the_first_of_the_fewest.Goals as goal

pub returns : goal.returns
returns c = λ depth paths path h. nearest_choice-is (λ other. depth other.slot) paths path h
