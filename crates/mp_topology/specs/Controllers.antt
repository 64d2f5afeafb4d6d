-- The controllers of a table, each with its fields in their order.
use Rattle.std.specs.Prelude.{ℕ, ◌-◌, Bool, false, ◌&&◌, ◌||◌, not, nat_le, ◌==◌, is_some, List, [], ◌∷◌, ◌++◌, length, take, map, codes, Option, option_and_then, unwrap_or}
use Rattle.std.specs.List.{list_all, position}
use Rattle.std.specs.Str.{bytes_eq}
use Rattle.toml.specs.Data.{Data, Members, no_members, as_table}
use Rattle.mp_checks.specs.Checks.{if_there, each_from}
use Rattle.mp_words.specs.declared.row.CState.{CState}
use Rattle.mp_words.specs.declared.row.CState.TheVariants.{Live}
use Rattle.mp_words.specs.Names.{cstate_named}
use Rattle.mp_topology.specs.Fields.{at, is_missing, integer_at, text_at, truth_at, list_at, optional_of, optional_checks}
use Rattle.mp_topology.specs.declared.errors.Field.TheVariants as field
use Rattle.mp_topology.specs.declared.errors.TopologyError.{TopologyError}
use Rattle.mp_topology.specs.declared.errors.TopologyError.TheVariants as errors
use Rattle.mp_topology.specs.declared.topology.Controller.{Controller}

-- ---- the name

-- a letter, a to z
abbrev pub is_letter : ℕ → Bool
is_letter c = nat_le 97 c && nat_le c 122

-- a byte that a name may have: a to z, 0 to 9, `-` and `_`
abbrev pub is_name_byte : ℕ → Bool
is_name_byte c = is_letter c || (nat_le 48 c && nat_le c 57) || (c == 45 || c == 95)

-- 1 to 16 bytes of a name, the first a letter
abbrev pub is_name : List ℕ → Bool
is_name [] = false
is_name (c ∷ cs) = (is_letter c && nat_le (length cs) 15) && list_all is_name_byte cs

-- the place of a name in a list of names
unfoldable pub place_of : List ℕ → List (List ℕ) → Option ℕ
place_of name names = position (λ x. bytes_eq x name) names

-- the checks of a controller's name: it is there, it is a name, and no earlier controller has it
unfoldable pub name_checks : List (List ℕ) → ℕ → Members → List (Bool × TopologyError)
name_checks earlier i t =
    (is_some (text_at (codes "name") t), errors.Field (at field.Name i))
    ∷ (if_there is_name (text_at (codes "name") t), errors.Range (at field.Name i))
    ∷ (
      if_there (λ s. not (is_some (place_of s earlier))) (text_at (codes "name") t),
      errors.Duplicate (at field.Name i),
    )
    ∷ []

-- a controller's name
unfoldable pub name_of : Members → List ℕ
name_of t = unwrap_or (text_at (codes "name") t) []

-- ---- the node

-- the checks of a controller's node, which may be missing and is below the number of nodes
unfoldable pub node_checks : ℕ → ℕ → Members → List (Bool × TopologyError)
node_checks nodes i t = optional_checks (codes "node") 0 (nodes - 1) (at field.Node i) t

-- a controller's node, if it has one
unfoldable pub node_of : Members → Option ℕ
node_of t = optional_of (integer_at (codes "node") t)

-- ---- whether it reports ANA

-- the check of `ana`: missing, or true or false
unfoldable pub ana_checks : ℕ → Members → List (Bool × TopologyError)
ana_checks i t = (is_missing (codes "ana") t || is_some (truth_at (codes "ana") t), errors.Field (at field.Ana i)) ∷ []

-- whether a controller reports ANA, false where the field is missing
unfoldable pub ana_of : Members → Bool
ana_of t = unwrap_or (truth_at (codes "ana") t) false

-- ---- its state, as Linux names them

-- the checks of a controller's state: missing, or the name of one
unfoldable pub state_checks : ℕ → Members → List (Bool × TopologyError)
state_checks i t =
    (is_missing (codes "state") t || is_some (text_at (codes "state") t), errors.Field (at field.State i))
    ∷ (if_there (λ s. is_some (cstate_named s)) (text_at (codes "state") t), errors.Range (at field.State i))
    ∷ []

-- a controller's state, live where the field is missing
unfoldable pub state_of : Members → CState
state_of t = unwrap_or (option_and_then cstate_named (text_at (codes "state") t)) Live

-- ---- the number of the box with its log page

-- the checks of a controller's page: missing, or a number up to 1023
unfoldable pub page_checks : ℕ → Members → List (Bool × TopologyError)
page_checks i t = optional_checks (codes "page") 0 1023 (at field.Page i) t

-- the number of the box with a controller's log page, if there is one
unfoldable pub page_of : Members → Option ℕ
page_of t = optional_of (integer_at (codes "page") t)

-- ---- one controller

-- the value is a table
abbrev pub is_table : Data → Bool
is_table d = is_some (as_table d)

-- the fields of a table; any other value has none
abbrev pub fields_of : Data → Members
fields_of d = unwrap_or (as_table d) no_members

-- the controller that a table is
abbrev pub controller_of : Members → Controller
controller_of t = record { name = name_of t; node = node_of t; ana = ana_of t; state = state_of t; page = page_of t }

-- the checks of the controller at a place, where the earlier ones have these names
unfoldable pub controller_checks : ℕ → List (List ℕ) → ℕ → Members → List (Bool × TopologyError)
controller_checks nodes earlier i t =
    name_checks earlier i t
    ++ (node_checks nodes i t
    ++ (ana_checks i t
    ++ (state_checks i t
    ++ page_checks i t)))

-- ---- all of them

-- the controllers that values are
abbrev pub controllers_in : List Data → List Controller
controllers_in ds = map (λ d. controller_of (fields_of d)) ds

-- the names of these controllers
abbrev pub names_in : List Data → List (List ℕ)
names_in ds = map (λ c. c.name) (controllers_in ds)

-- the checks of the controller at a place, behind those before it
unfoldable pub each_controller : ℕ → List Data → ℕ → Data → List (Bool × TopologyError)
each_controller nodes ds i d = controller_checks nodes (take i (names_in ds)) i (fields_of d)

-- the values of the field `controllers`
abbrev pub controller_items : Members → List Data
controller_items t = unwrap_or (list_at (codes "controllers") t) []

-- the checks of these values: tables all, at least one, at most 64, and then each controller
unfoldable pub items_checks : ℕ → List Data → List (Bool × TopologyError)
items_checks nodes ds =
    (list_all is_table ds, errors.Field (at field.Controllers 0))
    ∷ (not (length ds == 0), errors.Range (at field.Controllers 0))
    ∷ (nat_le (length ds) 64, errors.Limit (at field.Controllers 0))
    ∷ each_from (each_controller nodes ds) 0 ds

-- the checks of the field `controllers`: it is a list, and then its values
unfoldable pub controllers_checks : ℕ → Members → List (Bool × TopologyError)
controllers_checks nodes t =
    (is_some (list_at (codes "controllers") t), errors.Field (at field.Controllers 0))
    ∷ items_checks nodes (controller_items t)

-- the controllers of a table
unfoldable pub controllers_of : Members → List Controller
controllers_of t = controllers_in (controller_items t)

-- the names of a table's controllers
abbrev pub names_of : Members → List (List ℕ)
names_of t = map (λ c. c.name) (controllers_of t)
