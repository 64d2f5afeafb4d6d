use Rattle.std.proofs.Common.{◌≡◌, fold, take, None}
use Rattle.mp_words.specs.PathTable.{paths_of}
use Rattle.mp_policy.specs.Walks.{walk_step, walk_after}
use Rattle.mp_policy.proofs.walk.walk.Given as goal

abbrev pub invariant-loop-k : goal.invariant-loop-k
invariant-loop-k l = l.walked ≡ fold walk_step (record { first = None; last = None }) (take l.k (walk_after l.place (paths_of l.reading)))
