-- A lane as clauses see it.
use Rattle.std.specs.Prelude.{ℕ, ◌+◌, Bool, true, false, not, ◌&&◌, List, [], ◌∷◌, length, count_by, if◌then◌else◌}
use Rattle.mp_words.specs.RequestView.{RequestView}
use Rattle.mp_script.specs.declared.script.Line.{Line}
use Rattle.mp_script.specs.declared.script.Line.TheVariants as line
use Rattle.mp_script.specs.declared.script.Numbered1.{Numbered1}
use Rattle.mp_desk.specs.DeskView.{DeskView}
use Rattle.mp_lane.specs.declared.wants.Wants.{Wants}
use Rattle.mp_lane.specs.declared.wants.Wants.TheVariants as wants

-- The lane's number, whether it is the keeper's, the lines that it hasn't run, the list that it was given for the next
-- of them, whether it was given one, whether it is over, and its desk.
pub record LaneView : Type 0 where
  pub id : ℕ
  pub keeper : Bool
  pub rest : List Numbered1
  pub list : List RequestView
  pub listed : Bool
  pub over : Bool
  pub desk : DeskView

-- the line takes the list
abbrev pub requeues : Line → Bool
requeues line.Requeue = true
requeues (line.Submit req node) = false
requeues (line.Finish req) = false
requeues line.FinishAll = false
requeues (line.Log ctrl box) = false
requeues (line.Ctrl ctrl cstate) = false
requeues (line.Anatt ctrl) = false
requeues (line.Add ctrl box) = false
requeues (line.Remove ctrl) = false
requeues line.Reap = false
requeues (line.Policy policy) = false

-- the line submits a request
abbrev pub submits : Line → Bool
submits (line.Submit req node) = true
submits line.Requeue = false
submits (line.Finish req) = false
submits line.FinishAll = false
submits (line.Log ctrl box) = false
submits (line.Ctrl ctrl cstate) = false
submits (line.Anatt ctrl) = false
submits (line.Add ctrl box) = false
submits (line.Remove ctrl) = false
submits line.Reap = false
submits (line.Policy policy) = false

-- how many requests the next of these lines submits
abbrev pub next_submits : List Numbered1 → ℕ
next_submits [] = 0
next_submits (l ∷ rest) = if submits l.line then 1 else 0

-- what a lane that isn't over wants: the list where the next line takes it and none was given, or to run the next line,
-- or to end
abbrev pub wants_next : Bool → List Numbered1 → Wants
wants_next listed [] = wants.End
wants_next listed (l ∷ rest) = if requeues l.line && not listed then wants.List else wants.Line

-- what a lane wants; once it is over, nothing
abbrev pub wants_of : LaneView → Wants
wants_of v = if v.over then wants.Nothing else wants_next v.listed v.rest

-- The weight of a lane: its submit lines that weren't run, and the requests that it has and that haven't ended.
abbrev pub weight_of : LaneView → ℕ
weight_of v = count_by (λ l. submits l.line) v.rest + length v.list + length v.desk.flying + length v.desk.out
