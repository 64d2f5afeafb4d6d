use Rattle.std.proofs.Common.{List}
use Rattle.std.specs.List.{AllByRecursion, Contains}
use Rattle.std.proofs.lemmas.List.Elements.{All-contains_itself, recursion_from_All}
use Rattle.mp_words.specs.declared.path.Path.{Path}
use Rattle.mp_policy.specs.Choices.{distance_to}
use Rattle.mp_policy.proofs.Chosen.{nearest_has, round_has}
use Rattle.mp_policy.proofs.laws.what_is_chosen_is_usable.Goals as goal

each : (paths : List Path) → AllByRecursion (Contains paths) paths
each paths = recursion_from_All (Contains paths) paths (All-contains_itself paths)

pub returns : goal.returns
returns c = record {
  numa = λ near node paths path h. nearest_has (Contains paths) (distance_to near node) paths path (each paths) h;
  round_robin = λ last paths path h. round_has (Contains paths) last paths path (each paths) h;
  queue_depth = λ depth paths path h. nearest_has (Contains paths) (λ other. depth other.slot) paths path (each paths) h;
}
