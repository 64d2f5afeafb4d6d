use Rattle.std.proofs.Common.{◌≡◌, None, take, map}
use Rattle.toml.specs.View.{view}
use Rattle.mp_checks.specs.Checks.{first_fault, each_from}
use Rattle.mp_topology.specs.Controllers.{each_controller, controllers_in}
use Rattle.mp_topology.proofs.controllers.each_in.Given as goal

abbrev pub invariant-loop-i : goal.invariant-loop-i
invariant-loop-i l = record {
  pass : first_fault (each_from (each_controller l.nodes (map view l.items)) 0 (take l.i (map view l.items))) ≡ None;
  found : l.found.items ≡ controllers_in (take l.i (map view l.items));
}
