-- The distances between the nodes: row by row, and then the number of rows.
use Rattle.std.specs.Prelude.{ℕ, ◌-◌, Bool, ◌==◌, if◌then◌else◌, is_some, List, [], ◌∷◌, ◌++◌, length, take, map, replicate, codes, Option, Some, None, option_map, option_and_then, unwrap_or}
use Rattle.std.specs.List.{list_all}
use Rattle.toml.specs.Data.{Data, Members, as_array, as_integer}
use Rattle.mp_checks.specs.Checks.{each_from}
use Rattle.mp_topology.specs.Fields.{at, listed, list_at, is_within, number_of}
use Rattle.mp_topology.specs.declared.errors.Field.TheVariants as field
use Rattle.mp_topology.specs.declared.errors.TopologyError.{TopologyError}
use Rattle.mp_topology.specs.declared.errors.TopologyError.TheVariants as errors

-- the values of a row, where it is a list
unfoldable pub row_of : Data → Option (List Data)
row_of d = option_map listed (as_array d)

-- the values of a row of distances
abbrev pub row_items : Data → List Data
row_items d = unwrap_or (row_of d) []

-- the value is a whole number
abbrev pub is_number : Data → Bool
is_number d = is_some (as_integer d)

-- a value as a distance: a whole number from 1 to 255
unfoldable pub distance_of : Data → Option ℕ
distance_of d = option_and_then (λ z. if is_within 1 255 z then Some (number_of (Some z)) else None) (as_integer d)

-- the value is a distance
abbrev pub is_distance : Data → Bool
is_distance d = is_some (distance_of d)

-- the distances that values are
abbrev pub distances_in : List Data → List ℕ
distances_in ds = map (λ d. unwrap_or (distance_of d) 0) ds

-- a list with the same item after its end, up to a length
unfoldable pub filled : {X : Type 0} → ℕ → X → List X → List X
filled n x xs = xs ++ replicate (n - length xs) x

-- eight distances of a row, with 0 past its end
unfoldable pub row_value : Data → List ℕ
row_value d = filled 8 0 (distances_in (row_items d))

-- the checks of the values of a row: whole numbers all, as many as there are nodes, distances all
unfoldable pub list_checks : ℕ → ℕ → List Data → List (Bool × TopologyError)
list_checks nodes i ds =
    (list_all is_number ds, errors.Field (at field.Distance i))
    ∷ (length ds == nodes, errors.Range (at field.Distance i))
    ∷ (list_all is_distance ds, errors.Range (at field.Distance i))
    ∷ []

-- the checks of a row: it is a list, and then its values
unfoldable pub row_checks : ℕ → ℕ → Data → List (Bool × TopologyError)
row_checks nodes i d = (is_some (row_of d), errors.Field (at field.Distance i)) ∷ list_checks nodes i (row_items d)

-- the values of the field `distance`
abbrev pub rows_of : Members → List Data
rows_of t = unwrap_or (list_at (codes "distance") t) []

-- the checks of the first rows, one for each node, and then of the number of rows
unfoldable pub rows_checks : ℕ → List Data → List (Bool × TopologyError)
rows_checks nodes ds =
    each_from (row_checks nodes) 0 (take nodes ds) ++ (length ds == nodes, errors.Range (at field.Distance nodes)) ∷ []

-- the checks of the field `distance`: it is a list, and then its rows
unfoldable pub distance_checks : ℕ → Members → List (Bool × TopologyError)
distance_checks nodes t =
    (is_some (list_at (codes "distance") t), errors.Field (at field.Distance 0)) ∷ rows_checks nodes (rows_of t)

-- eight rows of eight distances, with 0 past the nodes
unfoldable pub grid : List (List ℕ) → List (List ℕ)
grid rows = filled 8 (filled 8 0 []) rows

-- the distances of a table, as eight rows of eight
unfoldable pub distances_of : ℕ → Members → List (List ℕ)
distances_of nodes t = grid (map row_value (take nodes (rows_of t)))
