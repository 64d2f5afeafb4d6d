-- The canonical text of a script: the answers, then the lanes; each line is its words, joined by one space.
use Rattle.std.specs.Prelude.{◌≡◌, ◌≤◌, ℕ, ◌+◌, Bool, List, [], ◌∷◌, ◌++◌, length, map, codes, Option, Some, None, Ok, if◌then◌else◌}
use Rattle.std.specs.List.{flat_map, join_with_byte}
use Rattle.std.specs.Fmt.{decimal}
use Rattle.mp_words.specs.declared.answers.Answer.{Answer}
use Rattle.mp_topology.specs.declared.topology.Topology.{Topology}
use Rattle.mp_script.specs.Script.{script_in}
pub use Rattle.mp_words.specs.Names.{status_word, policy_word, cstate_word}
pub use Rattle.mp_topology.specs.Names.{name_of}
use Rattle.mp_script.specs.declared.script.Line.{Line}
use Rattle.mp_script.specs.declared.script.Line.TheVariants as line
use Rattle.mp_script.specs.declared.script.Numbered1.{Numbered1}
use Rattle.mp_script.specs.declared.script.LanePlan.{LanePlan}
use Rattle.mp_script.specs.declared.script.Script.{Script}

-- ---- the words

-- the number of a box, or a dash
abbrev pub box_word : Option ℕ → List ℕ
box_word (Some box) = decimal box
box_word None = codes "-"

-- ---- the words of each line

-- the words of an answer
abbrev pub answer_words : Answer → List (List ℕ)
answer_words a = codes "answer" ∷ decimal a.req ∷ decimal a.attempt ∷ status_word a.status ∷ []

-- the words that begin a lane
abbrev pub lane_words : Bool → List (List ℕ)
lane_words keeper = (if keeper then codes "keeper" else codes "lane") ∷ []

-- the words of a line of a lane
abbrev pub line_words : Topology → Line → List (List ℕ)
line_words t (line.Submit req node) = codes "submit" ∷ decimal req ∷ decimal node ∷ []
line_words t (line.Finish req) = codes "finish" ∷ decimal req ∷ []
line_words t line.FinishAll = codes "finish" ∷ codes "all" ∷ []
line_words t line.Requeue = codes "requeue" ∷ []
line_words t (line.Log ctrl box) = codes "log" ∷ name_of t ctrl ∷ decimal box ∷ []
line_words t (line.Ctrl ctrl state) = codes "ctrl" ∷ name_of t ctrl ∷ cstate_word state ∷ []
line_words t (line.Anatt ctrl) = codes "anatt" ∷ name_of t ctrl ∷ []
line_words t (line.Add ctrl box) = codes "add" ∷ name_of t ctrl ∷ box_word box ∷ []
line_words t (line.Remove ctrl) = codes "remove" ∷ name_of t ctrl ∷ []
line_words t line.Reap = codes "reap" ∷ []
line_words t (line.Policy policy) = codes "policy" ∷ policy_word policy ∷ []

-- ---- the text

-- a line: its words joined by one space, and a line feed
abbrev pub line_text : List (List ℕ) → List ℕ
line_text words = join_with_byte 32 words ++ codes "\n"

-- the lines of a lane
abbrev pub plan_lines : Topology → LanePlan → List (List (List ℕ))
plan_lines t plan = lane_words plan.keeper ∷ map (λ n. line_words t n.line) plan.lines

-- every line: the answers, and then the lanes
abbrev pub script_lines : Topology → Script → List (List (List ℕ))
script_lines t script = map answer_words script.answers ++ flat_map (plan_lines t) script.lanes

-- the canonical text
abbrev pub script_text : Topology → Script → List ℕ
script_text t script = flat_map line_text (script_lines t script)

-- ---- the same script, with the numbers of the lines in this text

-- the lines, numbered from n
abbrev pub numbered_from : ℕ → List Numbered1 → List Numbered1
numbered_from n [] = []
numbered_from n (l ∷ lines) = record { number = n; line = l.line } ∷ numbered_from (n + 1) lines

-- the lanes, the first of which begins at line n
abbrev pub plans_from : ℕ → List LanePlan → List LanePlan
plans_from n [] = []
plans_from n (plan ∷ plans) =
    record { keeper = plan.keeper; lines = numbered_from (n + 1) plan.lines }
    ∷ plans_from (n + 1 + length plan.lines) plans

-- the script with the line numbers of its canonical text
abbrev pub renumbered : Script → Script
renumbered script = record { answers = script.answers; lanes = plans_from (length script.answers + 1) script.lanes }

-- ---- read again

-- the text isn't too long to be read, and is read as this script, with the numbers that its lines have in it
pub record IsReadAs (t : Topology) (pages : ℕ) (script : Script) (text : List ℕ) : Type 0 where
  pub short : length text ≤ 16777216
  pub read : script_in t pages text ≡ Ok (renumbered script)
