use Rattle.std.proofs.Common.{◌≡◌, take, map}
use Rattle.toml.specs.View.{view}
use Rattle.mp_topology.specs.Distance.{distances_in, filled}
use Rattle.mp_topology.proofs.distance.distances_in.Given as goal

abbrev pub invariant-loop-i : goal.invariant-loop-i
invariant-loop-i l = l.row ≡ filled 8 0 (distances_in (take l.i (map view l.items)))
