use Rattle.std.proofs.Common.{◌≡◌, None, take, map}
use Rattle.toml.specs.View.{view}
use Rattle.mp_checks.specs.Checks.{first_fault, each_from}
use Rattle.mp_topology.specs.Opening.{each_opening, places_in}
use Rattle.mp_topology.proofs.opening.opening_from.Given as goal

abbrev pub invariant-loop-i : goal.invariant-loop-i
invariant-loop-i l = record {
  pass : first_fault (each_from (each_opening (map (λ c. c.name) l.controllers) (map view l.items)) 0 (take l.i (map view l.items))) ≡ None;
  found : l.found.items ≡ places_in (map (λ c. c.name) l.controllers) (take l.i (map view l.items));
}
