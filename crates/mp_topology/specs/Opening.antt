-- The opening: the names of the controllers whose paths are there at the start, in their order.
use Rattle.std.specs.Prelude.{ℕ, Bool, ◌&&◌, not, nat_le, ◌==◌, is_some, is_none, List, [], ◌∷◌, length, take, map, codes, Option, slice_get, option_and_then, unwrap_or}
use Rattle.std.specs.List.{list_any}
use Rattle.toml.specs.Data.{Data, Members, as_str}
use Rattle.mp_checks.specs.Checks.{if_there, each_from}
use Rattle.mp_topology.specs.Fields.{at, list_at}
use Rattle.mp_topology.specs.Controllers.{place_of}
use Rattle.mp_topology.specs.declared.errors.Field.TheVariants as field
use Rattle.mp_topology.specs.declared.errors.TopologyError.{TopologyError}
use Rattle.mp_topology.specs.declared.errors.TopologyError.TheVariants as errors
use Rattle.mp_topology.specs.declared.topology.Controller.{Controller}

-- the values of the field `opening`
abbrev pub opening_items : Members → List Data
opening_items t = unwrap_or (list_at (codes "opening") t) []

-- the place of the controller that an item names
abbrev pub named_place : List (List ℕ) → Data → Option ℕ
named_place names d = option_and_then (λ s. place_of s names) (as_str d)

-- the places of the controllers that these values name
abbrev pub places_in : List (List ℕ) → List Data → List ℕ
places_in names ds = map (λ d. unwrap_or (named_place names d) 0) ds

-- the checks of one value of `opening`: a text, the name of a controller, not named before
unfoldable pub opening_item_checks : List (List ℕ) → List ℕ → ℕ → Data → List (Bool × TopologyError)
opening_item_checks names earlier j d =
    (is_some (as_str d), errors.Field (at field.Opening j))
    ∷ (is_some (named_place names d), errors.Range (at field.Opening j))
    ∷ (
      if_there (λ p. not (list_any (λ q. q == p) earlier)) (named_place names d),
      errors.Duplicate (at field.Opening j),
    )
    ∷ []

-- the checks of the value at a place, behind those before it
unfoldable pub each_opening : List (List ℕ) → List Data → ℕ → Data → List (Bool × TopologyError)
each_opening names ds j d = opening_item_checks names (take j (places_in names ds)) j d

-- the checks of the field `opening`: it is a list, of at most eight values, and then each value
unfoldable pub opening_checks : List (List ℕ) → Members → List (Bool × TopologyError)
opening_checks names t =
    (is_some (list_at (codes "opening") t), errors.Field (at field.Opening 0))
    ∷ (nat_le (length (opening_items t)) 8, errors.Limit (at field.Opening 0))
    ∷ each_from (each_opening names (opening_items t)) 0 (opening_items t)

-- the places of the opening controllers of a table
unfoldable pub opening_of : List (List ℕ) → Members → List ℕ
opening_of names t = places_in names (opening_items t)

-- a controller that reports ANA has a page
abbrev pub has_page : Controller → Bool
has_page c = not (c.ana && is_none c.page)

-- the check that an opening controller with ANA has a page
unfoldable pub paged_checks : List Controller → ℕ → List (Bool × TopologyError)
paged_checks controllers place =
    (if_there has_page (slice_get controllers place), errors.Field (at field.Page place)) ∷ []

-- this check of each opening controller, in the order of `opening`
unfoldable pub opening_page_checks : List Controller → List ℕ → List (Bool × TopologyError)
opening_page_checks controllers opening = each_from (λ j place. paged_checks controllers place) 0 opening
