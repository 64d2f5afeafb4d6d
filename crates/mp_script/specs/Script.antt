-- The checks of a script, as conditions on its whole text, and the script that it is.
use Rattle.std.specs.Prelude.{ℕ, Bool, List, ◌++◌, Result}
use Rattle.mp_checks.specs.Checks.{each_from, first_fault, value_unless, IsLeast}
use Rattle.mp_words.specs.Answers.{in_order}
use Rattle.mp_topology.specs.declared.topology.Topology.{Topology}
use Rattle.mp_topology.specs.declared.topology.Controller.{Controller}
use Rattle.mp_script.specs.Splitting.{lines_of}
use Rattle.mp_script.specs.Before.{each_of, answer_of}
use Rattle.mp_script.specs.Lines.{byte_checks, line_checks}
use Rattle.mp_script.specs.Plans.{plans}
use Rattle.mp_script.specs.declared.errors.ScriptError.{ScriptError}
use Rattle.mp_script.specs.declared.script.Script.{Script}

-- every check of a text, in order: first the bytes, then the lines
unfoldable pub checks : Topology → ℕ → List ℕ → List (Bool × ScriptError)
checks t pages bytes =
    each_from byte_checks 0 bytes
    ++ each_from (line_checks t pages (lines_of bytes)) 0 (lines_of bytes)

-- the script that lines are, where no check fails
unfoldable pub script_of : List Controller → List (List ℕ) → Script
script_of controllers lines = record { answers = in_order (each_of answer_of lines); lanes = plans controllers 1 lines }

-- the script that a text is, or why it is none
unfoldable pub script_in : Topology → ℕ → List ℕ → Result Script ScriptError
script_in t pages bytes = value_unless (first_fault (checks t pages bytes)) (script_of t.controllers (lines_of bytes))

-- the fault is the least pair of line and check that fails
abbrev pub IsLeastFault : Topology → ℕ → List (List ℕ) → ScriptError → Type 0
IsLeastFault t pages lines fault = IsLeast (line_checks t pages lines) lines fault
