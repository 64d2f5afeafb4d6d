-- Whether the log page of each controller is among those that are given.
use Rattle.std.specs.Prelude.{ℕ, Bool, nat_lt, List, [], ◌∷◌}
use Rattle.mp_checks.specs.Checks.{if_there, each_from}
use Rattle.mp_topology.specs.Fields.{at}
use Rattle.mp_topology.specs.declared.errors.Field.TheVariants as field
use Rattle.mp_topology.specs.declared.errors.TopologyError.{TopologyError}
use Rattle.mp_topology.specs.declared.errors.TopologyError.TheVariants as errors
use Rattle.mp_topology.specs.declared.topology.Controller.{Controller}

-- the check that the page of the controller at a place is below the number of boxes
abbrev pub box_checks : ℕ → ℕ → Controller → List (Bool × TopologyError)
box_checks boxes i c = (if_there (λ p. nat_lt p boxes) c.page, errors.Range (at field.Page i)) ∷ []

-- this check of each controller, in order
unfoldable pub fits_checks : ℕ → List Controller → List (Bool × TopologyError)
fits_checks boxes controllers = each_from (box_checks boxes) 0 controllers
