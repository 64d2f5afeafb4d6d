-- What the words of a line name.
use Rattle.std.specs.Prelude.{ℕ, Bool, true, false, ◌&&◌, ◌||◌, not, nat_le, nat_lt, is_some, if◌then◌else◌, List, map, codes, slice_get, Option, Some, None, option_and_then}
use Rattle.mp_checks.specs.Marks.{has}
use Rattle.mp_words.specs.Names.{policy_named, cstate_named}
use Rattle.mp_topology.specs.Controllers.{place_of}
use Rattle.mp_topology.specs.declared.topology.Controller.{Controller}
use Rattle.mp_script.specs.Splitting.{is_in, is_status, number_of, value_of}
use Rattle.mp_script.specs.Shape.{Shape, answer, submit, finish, log, ctrl, anatt, add, remove, policy, is_word}

-- ---- numbers

-- the word is a number below `nodes`
unfoldable pub is_node : ℕ → List ℕ → Bool
is_node nodes n = is_some (number_of n) && nat_lt (value_of n) nodes

-- the numbers of a line are numbers, and in their ranges
unfoldable pub has_numbers : ℕ → Shape → Bool
has_numbers nodes (answer r a s) = is_in 0 65535 r && (is_in 1 65535 a && is_status s)
has_numbers nodes (submit r n) = is_in 0 65535 r && is_node nodes n
has_numbers nodes (finish r) = is_word r (codes "all") || is_in 0 65535 r
has_numbers nodes (log c k) = is_some (number_of k)
has_numbers nodes (add c k) = is_word k (codes "-") || is_some (number_of k)
has_numbers nodes _ = true

-- ---- names and boxes

-- the number of the controller that has this name
abbrev pub place_in : List Controller → List ℕ → Option ℕ
place_in controllers w = place_of w (map (λ c. c.name) controllers)

-- the controller is there and reports ANA
abbrev pub reports_ana : Option Controller → Bool
reports_ana None = false
reports_ana (Some c) = c.ana

-- a controller with ANA has this name
unfoldable pub has_ana : List Controller → List ℕ → Bool
has_ana controllers w = reports_ana (option_and_then (slice_get controllers) (place_in controllers w))

-- a controller has this name
unfoldable pub is_there : List Controller → List ℕ → Bool
is_there controllers w = is_some (place_in controllers w)

-- there is a box with this number, which has 32 bits
unfoldable pub has_box : ℕ → List ℕ → Bool
has_box pages k = nat_lt (value_of k) pages && nat_le (value_of k) 4294967295

-- what a line names is there, but for the requests that it finishes
unfoldable pub is_named : List Controller → ℕ → Shape → Bool
is_named controllers pages (log c k) = is_there controllers c && (has_ana controllers c && has_box pages k)
is_named controllers pages (ctrl c s) = is_there controllers c && is_some (cstate_named s)
is_named controllers pages (anatt c) = is_there controllers c
is_named controllers pages (add c k) =
    is_there controllers c
    && (if is_word k (codes "-") then not (has_ana controllers c) else has_ana controllers c && has_box pages k)
is_named controllers pages (remove c) = is_there controllers c
is_named controllers pages (policy p) = is_some (policy_named p)
is_named controllers pages _ = true

-- a request that the line finishes is one of these
unfoldable pub is_submitted : List ℕ → Shape → Bool
is_submitted submits (finish r) = is_word r (codes "all") || has submits (value_of r)
is_submitted submits _ = true
