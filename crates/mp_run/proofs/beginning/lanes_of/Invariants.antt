use Rattle.std.proofs.Common.{◌≡◌, map, take}
use Rattle.std.specs.List.{enumerate_from}
use Rattle.mp_run.specs.Beginning.{first_lane}
use Rattle.mp_run.proofs.beginning.lanes_of.Given as goal

abbrev pub invariant-loop-place : goal.invariant-loop-place
invariant-loop-place l = l.lanes.items ≡ map first_lane (enumerate_from 0 (take l.place l.plans))
