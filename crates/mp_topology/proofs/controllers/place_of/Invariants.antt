use Rattle.std.proofs.Common.{◌≡◌, drop, map}
use Rattle.std.specs.List.{position, position_from}
use Rattle.std.specs.Str.{bytes_eq}
use Rattle.mp_topology.proofs.controllers.place_of.Given as goal

abbrev pub invariant-loop-i : goal.invariant-loop-i
invariant-loop-i l = position_from (λ x. bytes_eq x l.name) l.i (map (λ c. c.name) (drop l.i l.controllers)) ≡ position (λ x. bytes_eq x l.name) (map (λ c. c.name) l.controllers)
