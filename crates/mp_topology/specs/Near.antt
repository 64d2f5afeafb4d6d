-- How far the controllers are: the distances between the nodes, and the node of each controller.
use Rattle.std.specs.Prelude.{ℕ, List, map, Option, None}
use Rattle.mp_words.specs.declared.near.Near.{Near}
use Rattle.mp_topology.specs.Distance.{filled}
use Rattle.mp_topology.specs.declared.topology.Controller.{Controller}

-- the node of each of 64 controllers, with none past the last one
unfoldable pub homes_of : List Controller → List (Option ℕ)
homes_of controllers = filled 64 None (map (λ c. c.node) controllers)

-- the distances and homes of a topology
abbrev pub near_of : ℕ → List (List ℕ) → List Controller → Near
near_of nodes distance controllers = record { nodes = nodes; distance = distance; home = homes_of controllers }
