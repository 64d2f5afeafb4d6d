-- What the lanes of a text say.
use Rattle.std.specs.Prelude.{ℕ, ◌+◌, if◌then◌else◌, List, [], ◌∷◌, ◌++◌, codes, Option, Some, None, option_map, option_and_then}
use Rattle.std.specs.Option.{option_to_list}
use Rattle.mp_words.specs.Names.{policy_named, cstate_named}
use Rattle.mp_topology.specs.declared.topology.Controller.{Controller}
use Rattle.mp_script.specs.Splitting.{value_of}
use Rattle.mp_script.specs.Shape.{Shape, submit, finish, requeue, log, ctrl, anatt, add, remove, reap, policy, shape_of, is_word}
use Rattle.mp_script.specs.Wording.{place_in}
use Rattle.mp_script.specs.Before.{begins_lane, is_keeper}
use Rattle.mp_script.specs.declared.script.Line.{Line}
use Rattle.mp_script.specs.declared.script.Line.TheVariants as line
use Rattle.mp_script.specs.declared.script.Numbered1.{Numbered1}
use Rattle.mp_script.specs.declared.script.LanePlan.{LanePlan}

-- the number of the box that a word says, or none for a dash
unfoldable pub page_of : List ℕ → Option ℕ
page_of w = if is_word w (codes "-") then None else Some (value_of w)

-- which flights a word finishes
unfoldable pub finish_of : List ℕ → Line
finish_of w = if is_word w (codes "all") then line.FinishAll else line.Finish (value_of w)

-- what a line of a lane asks for, where the names in it are those of something
unfoldable pub line_of : List Controller → Shape → Option Line
line_of controllers (submit r n) = Some (line.Submit (value_of r) (value_of n))
line_of controllers (finish r) = Some (finish_of r)
line_of controllers requeue = Some line.Requeue
line_of controllers (log c k) = option_map (λ ctrl. line.Log ctrl (value_of k)) (place_in controllers c)
line_of controllers (ctrl c s) =
    option_and_then (λ ctrl. option_map (line.Ctrl ctrl) (cstate_named s)) (place_in controllers c)
line_of controllers (anatt c) = option_map line.Anatt (place_in controllers c)
line_of controllers (add c k) = option_map (λ ctrl. line.Add ctrl (page_of k)) (place_in controllers c)
line_of controllers (remove c) = option_map line.Remove (place_in controllers c)
line_of controllers reap = Some line.Reap
line_of controllers (policy p) = option_map line.Policy (policy_named p)
line_of controllers _ = None

-- the line of a lane with its number, if it asks for something
abbrev pub numbered : List Controller → ℕ → Shape → List Numbered1
numbered controllers n s = option_to_list (option_map (λ x. record { number = n; line = x }) (line_of controllers s))

-- the lines up to the next that begins a lane, the first of which has the number n
abbrev pub body : List Controller → ℕ → List (List ℕ) → List Numbered1
body controllers n [] = []
body controllers n (l ∷ ls) =
    if begins_lane (shape_of l) then []
    else numbered controllers n (shape_of l) ++ body controllers (n + 1) ls

-- a lane for each line that begins one, with its lines; the first line has the number n
abbrev pub plans : List Controller → ℕ → List (List ℕ) → List LanePlan
plans controllers n [] = []
plans controllers n (l ∷ ls) =
    if begins_lane (shape_of l)
    then record { keeper = is_keeper (shape_of l); lines = body controllers (n + 1) ls } ∷ plans controllers (n + 1) ls
    else plans controllers (n + 1) ls
