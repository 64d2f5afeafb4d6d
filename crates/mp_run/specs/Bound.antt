-- How many units the run of a script needs at most, by its text and the opening alone.
use Rattle.std.specs.Prelude.{ℕ, ◌+◌, ◌*◌, Bool, true, false, List, length, count_by, if◌then◌else◌}
use Rattle.std.specs.List.{list_any}
use Rattle.mp_words.specs.declared.answers.Answer.{Answer}
use Rattle.mp_status.specs.Disposition.{is_path_related}
use Rattle.mp_script.specs.declared.script.Line.{Line}
use Rattle.mp_script.specs.declared.script.Line.TheVariants as line
use Rattle.mp_script.specs.declared.script.LanePlan.{LanePlan}
use Rattle.mp_script.specs.declared.script.Script.{Script}
use Rattle.mp_script.specs.declared.script.World.{World}
use Rattle.mp_script.specs.Facts.{submits_in}
use Rattle.mp_script.specs.Written.{script_lines}
use Rattle.mp_legal.specs.PlainCall.{Inputs}
use Rattle.mp_legal.specs.Unnamed.{lines_in, stays_usable}

-- the line takes the requests from the list
abbrev pub is_requeue : Line → Bool
is_requeue line.Requeue = true
is_requeue _ = false

-- how many lines take the requests from the list
abbrev pub requeues : List LanePlan → ℕ
requeues lanes = count_by (λ l. is_requeue l.line) (lines_in lanes)

-- how many answers give a path's status
abbrev pub path_answers : List Answer → ℕ
path_answers answers = count_by (λ a. is_path_related a.status) answers

-- how many tries may be listed for want of a usable path: none where an opening path stays usable, else each request's
-- first, one for each line that takes the list, and two in the drain
abbrev pub most_listings : World → Script → ℕ
most_listings world script =
    if list_any (stays_usable world.topology script.lanes) world.topology.opening then 0
    else (requeues script.lanes + 3) * length (submits_in script.lanes)

-- the bound: the requests, the answers of paths, what may be listed, and twenty for each line of the canonical text
abbrev pub units_bound : World → Script → ℕ
units_bound world script =
    length (submits_in script.lanes) + path_answers script.answers + most_listings world script
    + 20 * length (script_lines world.topology script) + 300

-- the bound by the lines alone: the requests, each listed at its submit, at each line that takes the list and twice in
-- the drain, and twenty for each line of a lane and each answer
abbrev pub lines_bound : Inputs → List LanePlan → ℕ
lines_bound i lanes =
    length (submits_in lanes) + (requeues lanes + 3) * length (submits_in lanes)
    + 20 * (length (lines_in lanes) + length i.answers) + 300
