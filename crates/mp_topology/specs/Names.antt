-- The name of a controller by its number.
use Rattle.std.specs.Prelude.{ℕ, List, [], slice_get, Option, Some, None}
use Rattle.mp_topology.specs.declared.topology.Controller.{Controller}
use Rattle.mp_topology.specs.declared.topology.Topology.{Topology}

-- the name of a controller that is there
abbrev pub name_in : Option Controller → List ℕ
name_in (Some controller) = controller.name
name_in None = []

-- the name of the controller of a number, or nothing where there is none
abbrev pub name_of : Topology → ℕ → List ℕ
name_of t ctrl = name_in (slice_get t.controllers ctrl)
