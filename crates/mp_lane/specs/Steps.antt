-- What the steps of a lane do.
use Rattle.std.specs.Prelude.{◌≡◌, ◌≤◌, ◌⊎◌, ℕ, Bool, true, false, List, [], ◌∷◌, map, length, Some, None, IfSome, Result, Ok, Err}
use Rattle.std.specs.List.{AllByRecursion, slice_get}
use Rattle.mp_record.specs.declared.event.Event.TheVariants as event
use Rattle.mp_script.specs.declared.script.Line.{Line}
use Rattle.mp_script.specs.declared.script.Line.TheVariants as line
use Rattle.mp_script.specs.declared.script.Numbered1.{Numbered1}
use Rattle.mp_core.specs.Core.{Core}
use Rattle.mp_keep.specs.Keeper.{KeeperView}
use Rattle.mp_desk.specs.declared.halt.Halt.{Halt}
use Rattle.mp_desk.specs.declared.halt.Halt.TheVariants as halt
use Rattle.mp_desk.specs.DeskView.{DeskView, noting}
use Rattle.mp_desk.specs.Calls.{Stand, CallsTo, StopsTo, BreaksTo, DoesNothing, EndsAll}
use Rattle.mp_desk.specs.Desks.{stand}
use Rattle.mp_lane.specs.declared.error.LaneError.{LaneError}
use Rattle.mp_lane.specs.declared.error.LaneError.TheVariants as error
use Rattle.mp_lane.specs.declared.stepped.Stepped.{Stepped}
use Rattle.mp_lane.specs.declared.stepped.Stepped.TheVariants.{Ran, Ended, Spent}
use Rattle.mp_lane.specs.declared.wants.Wants.{Wants}
use Rattle.mp_lane.specs.declared.wants.Wants.TheVariants as wants
use Rattle.mp_lane.specs.LaneView.{LaneView}
use Rattle.mp_lane.specs.Lines.{Reads, LineStart, finishes, means_of, start_of, is_keepers}

-- the page in a box has at most 65,536 bytes, where it is there
abbrev pub FitsPage : List (List ℕ) → ℕ → Type 0
FitsPage pages box = IfSome (slice_get pages box) (λ page. length page ≤ 65536)

-- the page that a line names, where it names one, has at most 65,536 bytes
abbrev pub CanRead : List (List ℕ) → Line → Type 0
CanRead pages (line.Log ctrl box) = FitsPage pages box
CanRead pages (line.Add ctrl (Some box)) = FitsPage pages box
CanRead pages (line.Add ctrl None) = Unit {0}
CanRead pages (line.Submit req node) = Unit {0}
CanRead pages (line.Finish req) = Unit {0}
CanRead pages line.FinishAll = Unit {0}
CanRead pages line.Requeue = Unit {0}
CanRead pages (line.Ctrl ctrl cstate) = Unit {0}
CanRead pages (line.Anatt ctrl) = Unit {0}
CanRead pages (line.Remove ctrl) = Unit {0}
CanRead pages line.Reap = Unit {0}
CanRead pages (line.Policy policy) = Unit {0}

-- each page that these lines name has at most 65,536 bytes
abbrev pub MayRead : List (List ℕ) → List Numbered1 → Type 0
MayRead pages lines = AllByRecursion (λ l. CanRead pages l.line) lines

-- a line is left
abbrev pub has_line : List Numbered1 → Bool
has_line [] = false
has_line (l ∷ rest) = true

-- the lines behind the next one
abbrev pub behind : List Numbered1 → List Numbered1
behind [] = []
behind (l ∷ rest) = rest

-- a lane that wants this may step: a line, or its end
abbrev pub IsToStep : Wants → Type 0
IsToStep wants.Line = Unit {0}
IsToStep wants.End = Unit {0}
IsToStep wants.List = ⊥
IsToStep wants.Nothing = ⊥

-- a lane that isn't the keeper's has none of its lines
abbrev pub HasNoKeeperLine : List Numbered1 → Type 0
HasNoKeeperLine lines = AllByRecursion (λ l. is_keepers l.line ≡ false) lines

-- What was done, if it ended well, where units were short, and where memory ran out.
abbrev pub Told : {T : Type 0} → Result T Halt → Type 0 → Type 0 → Type 0 → Type 0
Told (Ok x) Done Stopped Broken = Done
Told (Err halt.Spent) Done Stopped Broken = Stopped
Told (Err halt.NoMemory) Done Stopped Broken = Broken

-- what a line that starts so did for which memory ran out: nothing, or it said what it says, and one of its calls broke
-- off
abbrev pub BreaksOff : Reads → ℕ → LineStart → Stand → Stand → Type 0
BreaksOff i line start p q =
    DoesNothing p q ⊎ BreaksTo (means_of i line) start.calls (record p { desk = noting (map (event.At line) start.said) p.desk }) q

-- what a line that starts so did, as far as the units and memory were enough: it said what it says, and made its calls
abbrev pub Runs : {T : Type 0} → Result T Halt → Reads → ℕ → LineStart → Stand → Stand → Type 0
Runs result i line start p q =
    Told result
    (CallsTo (means_of i line) start.calls (record p { desk = noting (map (event.At line) start.said) p.desk }) q)
    (StopsTo (means_of i line) start.calls (record p { desk = noting (map (event.At line) start.said) p.desk }) q)
    (BreaksOff i line start p q)

-- what a line that starts so did, of a lane that steps beside a keeper
abbrev pub RunsBeside : {T : Type 0} → Result T Halt → Reads → ℕ → LineStart → Core → Core → DeskView → DeskView → Type 0
RunsBeside result i line start a b d e = (k : KeeperView) → Runs result i line start (stand a d k) (stand b e k)

-- the number of the next line; the end of a lane is line 0
abbrev pub line_of : LaneView → ℕ
line_of v = number v.rest
  where
    number : List Numbered1 → ℕ
    number [] = 0
    number (l ∷ rest) = l.number

-- how the next line starts; at the lane's end all its flights are finished
abbrev pub start_at : Reads → LaneView → LineStart
start_at i v = first v.rest
  where
    first : List Numbered1 → LineStart
    first [] = finishes v.desk.flying
    first (l ∷ rest) = start_of i v.list v.desk.flying l.line

-- The next line ran: it is done, and the list with it.
pub record RunsOn (i : Reads) (v w : LaneView) (p q : Stand) : Type 0 where
  pub line : Numbered1
  pub behind : List Numbered1
  pub rest : v.rest ≡ line ∷ behind
  pub lane : w ≡ record v { rest = behind; list = []; listed = false; desk = q.desk }
  pub calls : CallsTo (means_of i (line_of v)) (start_at i v).calls (record p { desk = noting (map (event.At (line_of v)) (start_at i v).said) p.desk }) q

-- The lane came to its end: all its flights are finished, and it is over.
pub record ComesToEnd (i : Reads) (v w : LaneView) (p q : Stand) : Type 0 where
  pub rest : v.rest ≡ []
  pub lane : w ≡ record v { list = []; listed = false; over = true; desk = q.desk }
  pub calls : CallsTo (means_of i 0) (start_at i v).calls (record p { desk = noting (map (event.At 0) (start_at i v).said) p.desk }) q

-- The units of the lane weren't enough for one of the calls: all its flights are ended, and it is over.
pub record IsSpent (i : Reads) (v w : LaneView) (p q : Stand) : Type 0 where
  pub mid : Stand
  pub stops : StopsTo (means_of i (line_of v)) (start_at i v).calls (record p { desk = noting (map (event.At (line_of v)) (start_at i v).said) p.desk }) mid
  pub ends : EndsAll mid.core q.core mid.desk q.desk
  pub keeper : q.keeper ≡ mid.keeper
  pub lane : w ≡ record v { list = []; listed = false; over = true; desk = q.desk }

-- Memory ran out: the lane is over, and none of its flights is left.
pub record Fails (v w : LaneView) (q : Stand) : Type 0 where
  pub over : w.over ≡ true
  pub list : w.list ≡ []
  pub flying : w.desk.flying ≡ []
  pub id : w.id ≡ v.id
  pub keeper : w.keeper ≡ v.keeper
  pub rest : w.rest ≡ v.rest
  pub listed : w.listed ≡ false

-- Where memory ran out, what the next line or the end did before that: it broke off, and all flights are ended then.
pub record IsBroken (i : Reads) (v w : LaneView) (p q : Stand) : Type 0 where
  pub mid : Stand
  pub breaks : BreaksOff i (line_of v) (start_at i v) p mid
  pub ends : EndsAll mid.core q.core mid.desk q.desk
  pub keeper : q.keeper ≡ mid.keeper
  pub lane : w ≡ record v { list = []; listed = false; over = true; desk = q.desk }

-- What a step of a lane did, by its answer.
abbrev pub StepTo : Result Stepped LaneError → Reads → LaneView → LaneView → Stand → Stand → Type 0
StepTo (Ok Ran) i v w p q = RunsOn i v w p q
StepTo (Ok Ended) i v w p q = ComesToEnd i v w p q
StepTo (Ok Spent) i v w p q = IsSpent i v w p q
StepTo (Err error.NoMemory) i v w p q = Fails v w q

-- A lane stops: all its flights are ended, and it is over.
pub record Stops (v w : LaneView) (a b : Core) : Type 0 where
  pub ends : EndsAll a b v.desk w.desk
  pub lane : w ≡ record v { list = []; listed = false; over = true; desk = w.desk }

-- How a lane goes on once its next line was run, or its end, or either failed.
abbrev pub Settles : Result Bool Halt → Result Stepped LaneError → LaneView → LaneView → Core → Core → Type 0
Settles (Ok true) result v w a b = (result ≡ Ok Ran) × (w ≡ record v { rest = behind v.rest; listed = false }) × (b ≡ a)
Settles (Ok false) result v w a b = (result ≡ Ok Ended) × (w ≡ record v { listed = false; over = true }) × (b ≡ a)
Settles (Err halt.Spent) result v w a b = (result ≡ Ok Spent) × Stops v w a b
Settles (Err halt.NoMemory) result v w a b = (result ≡ Err error.NoMemory) × Stops v w a b
