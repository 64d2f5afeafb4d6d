use Rattle.std.proofs.Common.{◌≡◌, true, take, map}
use Rattle.std.specs.List.{list_all}
use Rattle.toml.specs.View.{view}
use Rattle.mp_topology.specs.Distance.{is_number}
use Rattle.mp_topology.proofs.distance.are_numbers.Given as goal

abbrev pub invariant-loop-item : goal.invariant-loop-item
invariant-loop-item l = list_all is_number (map view (take l.item-index l.items)) ≡ true
