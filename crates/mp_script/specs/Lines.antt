-- The checks of each line.
use Rattle.std.specs.Prelude.{ℕ, ◌+◌, Bool, true, false, ◌&&◌, not, nat_le, ◌==◌, List, [], ◌∷◌, take}
use Rattle.mp_topology.specs.declared.topology.Topology.{Topology}
use Rattle.mp_script.specs.Splitting.{is_script_byte}
use Rattle.mp_script.specs.Shape.{Shape, skipped, unknown, answer, lane, keeper, add, remove, reap, policy, shape_of}
use Rattle.mp_script.specs.Wording.{has_numbers, is_named, is_submitted}
use Rattle.mp_script.specs.Before.{Before, begins_lane, before, repeats, submitted_in}
use Rattle.mp_script.specs.declared.errors.ScriptError.{ScriptError}
use Rattle.mp_script.specs.declared.errors.ScriptError.TheVariants as errors

-- the line stands where it may, after so many lanes have begun
abbrev pub stands : ℕ → Shape → Bool
stands lanes skipped = true
stands lanes unknown = false
stands lanes (answer r a s) = lanes == 0
stands lanes lane = true
stands lanes keeper = true
stands lanes _ = not (lanes == 0)

-- the line may stand in the keeper's lane alone
abbrev pub is_keepers : Shape → Bool
is_keepers (add c k) = true
is_keepers (remove c) = true
is_keepers reap = true
is_keepers (policy p) = true
is_keepers _ = false

-- the line has its place: it is one of the first 65,536 and begins one of the first sixteen lanes, if any
abbrev pub is_within : ℕ → ℕ → Shape → Bool
is_within n lanes s = nat_le n 65536 && not (begins_lane s && nat_le 16 lanes)

-- the checks of a line of this number, behind what stands before it and among what the whole text submits
unfoldable pub shape_checks : Topology → ℕ → List ℕ → Before → ℕ → Shape → List (Bool × ScriptError)
shape_checks t pages submits b n s =
    (is_within n b.lanes s, errors.Limit n)
    ∷ (stands b.lanes s, errors.Line n)
    ∷ (not (is_keepers s && not b.in_keeper), errors.NotKeeper n)
    ∷ (has_numbers t.near.nodes s, errors.Number n)
    ∷ (is_named t.controllers pages s && is_submitted submits s, errors.Unknown n)
    ∷ (not (repeats b s), errors.Repeat n)
    ∷ []

-- the checks of the line at place i of these
unfoldable pub line_checks : Topology → ℕ → List (List ℕ) → ℕ → List ℕ → List (Bool × ScriptError)
line_checks t pages lines i l =
    shape_checks t pages (submitted_in t.near.nodes lines) (before (take i lines)) (i + 1) (shape_of l)

-- the check of the byte at place i
unfoldable pub byte_checks : ℕ → ℕ → List (Bool × ScriptError)
byte_checks i b = (is_script_byte b, errors.NotAscii i) ∷ []
