-- The topology that a table is, and the checks of the table in their order.
use Rattle.std.specs.Prelude.{◌≡◌, IsUtf8, ℕ, Bool, if◌then◌else◌, is_some, List, [], ◌∷◌, ◌++◌, codes, Option, Some, None, Result, Err, option_and_then, unwrap_or}
use Rattle.std.specs.Str.{is_utf8}
use Rattle.toml.specs.Data.{Members}
use Rattle.toml.specs.Parse.{parse_document}
use Rattle.mp_checks.specs.Checks.{first_fault, if_there, value_unless}
use Rattle.mp_words.specs.declared.row.Policy.{Policy}
use Rattle.mp_words.specs.declared.row.Policy.TheVariants.{Numa}
use Rattle.mp_words.specs.Names.{policy_named}
use Rattle.mp_topology.specs.Fields.{at, integer_at, text_at, number_of, optional_of, number_checks, optional_checks}
use Rattle.mp_topology.specs.Distance.{distance_checks, distances_of}
use Rattle.mp_topology.specs.Controllers.{controllers_checks, controllers_of, names_of}
use Rattle.mp_topology.specs.Opening.{opening_checks, opening_of, opening_page_checks}
use Rattle.mp_topology.specs.Near.{near_of}
use Rattle.mp_topology.specs.declared.errors.Field.TheVariants as field
use Rattle.mp_topology.specs.declared.errors.TopologyError.{TopologyError}
use Rattle.mp_topology.specs.declared.errors.TopologyError.TheVariants as errors
use Rattle.mp_topology.specs.declared.topology.Topology.{Topology}

-- ---- the numbers

-- the checks of `nsid`
unfoldable pub nsid_checks : Members → List (Bool × TopologyError)
nsid_checks t = number_checks (codes "nsid") 1 4294967294 (at field.Nsid 0) t

-- the namespace identifier of a table
unfoldable pub nsid_of : Members → ℕ
nsid_of t = number_of (integer_at (codes "nsid") t)

-- the checks of `anagrpmax`
unfoldable pub anagrpmax_checks : Members → List (Bool × TopologyError)
anagrpmax_checks t = number_checks (codes "anagrpmax") 1 4294967295 (at field.Anagrpmax 0) t

-- the greatest ANA group identifier of a table
unfoldable pub anagrpmax_of : Members → ℕ
anagrpmax_of t = number_of (integer_at (codes "anagrpmax") t)

-- the checks of `group`, which may be missing
unfoldable pub group_checks : ℕ → Members → List (Bool × TopologyError)
group_checks anagrpmax t = optional_checks (codes "group") 1 anagrpmax (at field.Group 0) t

-- the group of a table, 1 where the field is missing
unfoldable pub group_of : Members → ℕ
group_of t = unwrap_or (optional_of (integer_at (codes "group") t)) 1

-- the checks of `nodes`
unfoldable pub nodes_checks : Members → List (Bool × TopologyError)
nodes_checks t = number_checks (codes "nodes") 1 8 (at field.Nodes 0) t

-- the number of nodes of a table
unfoldable pub nodes_of : Members → ℕ
nodes_of t = number_of (integer_at (codes "nodes") t)

-- ---- the policy

-- the checks of `policy`
unfoldable pub policy_checks : Members → List (Bool × TopologyError)
policy_checks t =
    (is_some (text_at (codes "policy") t), errors.Field (at field.Policy 0))
    ∷ (if_there (λ s. is_some (policy_named s)) (text_at (codes "policy") t), errors.Range (at field.Policy 0))
    ∷ []

-- the policy of a table
unfoldable pub policy_of : Members → Policy
policy_of t = unwrap_or (option_and_then policy_named (text_at (codes "policy") t)) Numa

-- ---- the whole

-- every check of a table, in order
abbrev pub checks : Members → List (Bool × TopologyError)
checks t =
    nsid_checks t
    ++ (anagrpmax_checks t
    ++ (group_checks (anagrpmax_of t) t
    ++ (policy_checks t
    ++ (nodes_checks t
    ++ (distance_checks (nodes_of t) t
    ++ (controllers_checks (nodes_of t) t
    ++ (opening_checks (names_of t) t
    ++ opening_page_checks (controllers_of t) (opening_of (names_of t) t))))))))

-- the topology that a table is, where no check fails
abbrev pub topology_of : Members → Topology
topology_of t = record {
  nsid = nsid_of t;
  anagrpmax = anagrpmax_of t;
  group = group_of t;
  policy = policy_of t;
  near = near_of (nodes_of t) (distances_of (nodes_of t) t) (controllers_of t);
  controllers = controllers_of t;
  opening = opening_of (names_of t) t;
}

-- the bytes are the text of this table
pub record IsTable (bytes : List ℕ) (t : Members) : Type 0 where
  pub utf8 : IsUtf8 bytes
  pub parsed : parse_document bytes ≡ Some t

-- ---- of the bytes

-- the table whose text the bytes are, if they are one
abbrev pub table_in : List ℕ → Option Members
table_in bytes = if is_utf8 bytes then parse_document bytes else None

-- the topology of a table, or why there is none
abbrev pub read_of : Option Members → Result Topology TopologyError
read_of None = Err errors.NotToml
read_of (Some t) = value_unless (first_fault (checks t)) (topology_of t)

-- the topology that the bytes say, or why they say none
unfoldable pub topology_in : List ℕ → Result Topology TopologyError
topology_in bytes = read_of (table_in bytes)
