use Rattle.mp_policy.specs.Choices.{distance_to}
use Rattle.mp_policy.proofs.NoChoice.{nearest_choice-none}
use Rattle.mp_policy.proofs.RobinNone.{round_robin_none}
use Rattle.mp_policy.proofs.laws.none_is_chosen_where_none_is_usable.Goals as goal

pub returns : goal.returns
returns c = record {
  numa = λ near node paths. nearest_choice-none (distance_to near node) paths;
  round_robin = λ last paths. round_robin_none last paths;
  queue_depth = λ depth paths. nearest_choice-none (λ path. depth path.slot) paths;
}
