use Rattle.std.proofs.Common.{◌≡◌, true, take, map}
use Rattle.std.specs.List.{list_all}
use Rattle.toml.specs.View.{view}
use Rattle.mp_topology.specs.Controllers.{is_table}
use Rattle.mp_topology.proofs.controllers.are_tables.Given as goal

abbrev pub invariant-loop-item : goal.invariant-loop-item
invariant-loop-item l = list_all is_table (map view (take l.item-index l.items)) ≡ true
