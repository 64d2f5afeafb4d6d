use Rattle.std.proofs.Common.{take, filter}
use Rattle.mp_words.specs.PathTable.{paths_of, is_in}
use Rattle.mp_policy.proofs.Least.{IsLeastOf}
use Rattle.mp_policy.proofs.nearest.nearest.Given as goal

-- the choice among the paths so far
abbrev pub invariant-loop-place : goal.invariant-loop-place
invariant-loop-place g l = IsLeastOf (g.D.Distance.far l.by) (filter (is_in l.state) (take l.place (paths_of l.reading))) l.best
