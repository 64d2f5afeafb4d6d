-- The numbers that the words of a line are, each looked at once, and the controller that a line names.
use Rattle.std.specs.Prelude.{◌≡◌, ℕ, Bool, ◌&&◌, nat_le, nat_lt, is_some, unwrap_or, List, Option, None, slice_get, option_and_then}
use Rattle.mp_checks.specs.Checks.{if_there}
use Rattle.mp_topology.specs.declared.topology.Controller.{Controller}
use Rattle.mp_script.specs.Splitting.{number_of}
use Rattle.mp_script.specs.Shape.{Shape, answer, submit, finish, log, ctrl, anatt, add, remove}
use Rattle.mp_script.specs.Wording.{place_in, reports_ana}
use Rattle.mp_script.specs.declared.numbers.Numbers.{Numbers}

-- these are the numbers of the words of a line that have to be numbers, by their places behind its first word
abbrev pub AreNumbers : Numbers → Shape → Type 0
AreNumbers numbers (answer r a s) = (numbers.first ≡ number_of r) × (numbers.second ≡ number_of a)
AreNumbers numbers (submit r n) = (numbers.first ≡ number_of r) × (numbers.second ≡ number_of n)
AreNumbers numbers (finish r) = numbers.first ≡ number_of r
AreNumbers numbers (log c k) = numbers.second ≡ number_of k
AreNumbers numbers (add c k) = numbers.second ≡ number_of k
AreNumbers numbers _ = Unit {0}

-- the place of the controller that a line names
unfoldable pub ctrl_of : List Controller → Shape → Option ℕ
ctrl_of controllers (log c k) = place_in controllers c
ctrl_of controllers (ctrl c s) = place_in controllers c
ctrl_of controllers (anatt c) = place_in controllers c
ctrl_of controllers (add c k) = place_in controllers c
ctrl_of controllers (remove c) = place_in controllers c
ctrl_of controllers _ = None

-- ---- tests of what was found

-- a number is there, from low to high
abbrev pub is_from : ℕ → ℕ → Option ℕ → Bool
is_from low high number = is_some number && if_there (λ n. nat_le low n && nat_le n high) number

-- a number is there, below so many
abbrev pub is_below : ℕ → Option ℕ → Bool
is_below nodes number = is_some number && nat_lt (unwrap_or number 0) nodes

-- there is a box with this number, which has 32 bits
abbrev pub is_box : ℕ → Option ℕ → Bool
is_box pages number = nat_lt (unwrap_or number 0) pages && nat_le (unwrap_or number 0) 4294967295

-- a controller is there, and has ANA
abbrev pub is_with_ana : List Controller → Option ℕ → Bool
is_with_ana controllers place = reports_ana (option_and_then (slice_get controllers) place)
