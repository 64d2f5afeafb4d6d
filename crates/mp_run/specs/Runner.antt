-- The lanes of a run on one thread against the plain run.
use Rattle.std.specs.Prelude.{[], ◌≡◌, ◌<◌, ◌≤◌, ◌+◌, ◌==◌, ℕ, Bool, true, false, List, ◌∷◌, ◌++◌, map, length, count_by, sum_by, Option, Some, None, Ok, slice_index_or, slice_set}
use Rattle.std.specs.List.{AllByRecursion}
use Rattle.mp_checks.specs.Marks.{has}
use Rattle.mp_words.specs.declared.entry.RowEntry.{RowEntry}
use Rattle.mp_words.specs.RequestView.{RequestView}
use Rattle.mp_record.specs.declared.event.Event.{Event}
use Rattle.mp_script.specs.declared.script.Numbered1.{Numbered1}
use Rattle.mp_core.specs.Core.{Core}
use Rattle.mp_core.specs.Seats.{turned}
use Rattle.mp_core.specs.Unpacked.{unpacked}
use Rattle.mp_plain.specs.declared.plain.Plain.{Plain}
use Rattle.mp_plain.specs.Lanes.{begun}
use Rattle.mp_plain.specs.Told.{told_core}
use Rattle.mp_keep.specs.Keeper.{KeeperView, StandsTo}
use Rattle.mp_desk.specs.DeskView.{DeskView}
use Rattle.mp_desk.specs.Calls.{Stand, IsWaiting}
use Rattle.mp_desk.specs.Desks.{desk_of, stand}
use Rattle.mp_lane.specs.declared.stepped.Stepped.{Stepped}
use Rattle.mp_lane.specs.declared.stepped.Stepped.TheVariants.{Ran, Ended, Spent}
use Rattle.mp_lane.specs.declared.wants.Wants.{Wants}
use Rattle.mp_lane.specs.declared.wants.Wants.TheVariants as wants
use Rattle.mp_lane.specs.LaneView.{LaneView, wants_of}
use Rattle.mp_lane.specs.Lines.{Reads}
use Rattle.mp_lane.specs.Steps.{MayRead, StepTo}
use Rattle.mp_legal.specs.Numbers.{has_req}
use Rattle.mp_legal.specs.PlainState.{State}
use Rattle.mp_legal.specs.ToldDesks.{SitsAt, IsInRun, times, told_events}
use Rattle.mp_legal.specs.ToldKeeper.{KeepsAt, orders_in}
use Rattle.mp_legal.specs.ToldState.{Beside, state_in}
use Rattle.mp_legal.specs.Units.{Paid}
use Rattle.mp_run.specs.declared.runner.Runner.{Runner}
use Rattle.mp_run.specs.LaneTurns.{submit_in}

-- What a run has made and has beside its words, in the order of the run.
pub record Story : Type 0 where
  pub beside : Beside
  pub rows : List RowEntry

-- a lane that isn't there
abbrev pub no_lane : LaneView
no_lane = record {
  id = 0;
  keeper = false;
  rest = [];
  list = [];
  listed = false;
  over = true;
  desk = record { flying = []; out = []; ended = []; events = []; rows = []; keeps = false };
}

-- the lane of a number
abbrev pub lane_at : ℕ → Runner → LaneView
lane_at n r = slice_index_or r.lanes.items n no_lane

-- what a lane knows at its turn
abbrev pub core_for : ℕ → Plain → Core
core_for lane p = turned (begun (told_core p).view.keeping.start) lane (told_core p) (unpacked p.words)

-- where a lane stands at its turn
abbrev pub stand_at : ℕ → DeskView → KeeperView → Plain → Stand
stand_at lane d k p = stand (core_for lane p) d k

-- the plain state of the words, in this story
abbrev pub state_by : Runner → Story → State
state_by r s = state_in (unpacked r.plain.words) s.beside

-- how many units a lane has left
abbrev pub left_of : ℕ → Runner → ℕ
left_of lane r = (core_for lane r.plain).view.left

-- how many requests of a number lanes, the list and the drain have
abbrev pub total : ℕ → List LaneView → List RequestView → DeskView → ℕ
total req lanes list drain =
    sum_by (λ v. times req v.desk) lanes + (count_by (λ r. r.id == req) list + times req drain)

-- how many entries of a kind lanes and the drain have made
abbrev pub made_by : (RowEntry → Bool) → List LaneView → DeskView → ℕ
made_by of lanes drain = sum_by (λ v. count_by of v.desk.rows) lanes + count_by of drain.rows

-- Between two turns a lane sits at its desk, has nothing to list, and no list was given to it.
pub record IsSeated (n : ℕ) (v : LaneView) (r : Runner) (x : Beside) : Type 0 where
  pub id : v.id ≡ n
  pub sits : SitsAt (stand_at n v.desk r.keeper r.plain) x.waiting (unpacked r.plain.words) x
  pub out : v.desk.out ≡ []
  pub list : v.list ≡ []
  pub listed : v.listed ≡ false

-- Between two turns each lane and the drain sits at its desk in a run of this story; the keeper stands to its steps and
-- agrees with the plain state; the list has the requests that wait; no request is in two places; and each entry of a row
-- was made by one of them.
pub record IsTied (r : Runner) (s : Story) : Type 0 where
  pub few : length r.lanes.items ≤ 16
  pub lanes : (n : ℕ) → n < length r.lanes.items → IsSeated n (lane_at n r) r s.beside
  pub drain : SitsAt (stand_at 16 (desk_of r.drain) r.keeper r.plain) s.beside.waiting (unpacked r.plain.words) s.beside
  pub drain_out : r.drain.out.items ≡ []
  pub seats : length (told_core r.plain).others ≡ 17
  pub now : (told_core r.plain).lane < 17
  pub stands : StandsTo r.keeper (told_core r.plain).view
  pub agrees : KeepsAt r.keeper (state_by r s)
  pub waiting : s.beside.waiting ≡ map (λ q. q.id) r.list
  pub listed : AllByRecursion (IsInRun s.beside) r.list
  pub waits : AllByRecursion IsWaiting r.list
  pub once : (req : ℕ) → total req r.lanes.items r.list (desk_of r.drain) ≤ 1
  pub made : (of : RowEntry → Bool) → count_by of s.rows ≡ made_by of r.lanes.items (desk_of r.drain)

-- a lane with the list, where it wants it
abbrev pub given : Wants → List RequestView → LaneView → LaneView
given wants.List list v = record v { list = list; listed = true }
given wants.Line list v = v
given wants.End list v = v
given wants.Nothing list v = v

-- the list, where it isn't wanted
abbrev pub kept_list : Wants → List RequestView → List RequestView
kept_list wants.List list = []
kept_list wants.Line list = list
kept_list wants.End list = list
kept_list wants.Nothing list = list

-- A lane stepped from this stand, with the list where it wanted it, and what it had to list was listed.
pub record StepsFrom (stepped : Stepped) (i : Reads) (v w : LaneView) (l m : List RequestView) (p : Stand) (c : Core) (k : KeeperView) : Type 0 where
  pub stood : StandsTo p.keeper p.core.view
  pub after : LaneView
  pub does : StepTo (Ok stepped) i (given (wants_of v) l v) after p (stand c after.desk k)
  pub lane : w ≡ record after { desk = record (after.desk) { out = [] } }
  pub list : m ≡ kept_list (wants_of v) l ++ after.desk.out

-- the next line of a lane, or its end
abbrev pub next_by : List Numbered1 → Option Numbered1
next_by [] = None
next_by (l ∷ rest) = Some l

-- the next turn of a lane
abbrev pub next_of : LaneView → Option Numbered1
next_of v = next_by v.rest

-- the turns that a lane has left: its lines, and its end
abbrev pub turns_left : List Numbered1 → List (Option Numbered1)
turns_left [] = None ∷ []
turns_left (l ∷ rest) = Some l ∷ turns_left rest

-- the turns that a lane has left, by whether it is over
abbrev pub ahead_by : Bool → List Numbered1 → List (Option Numbered1)
ahead_by true rest = []
ahead_by false rest = turns_left rest

-- the turns that a lane has left
abbrev pub ahead_of : LaneView → List (Option Numbered1)
ahead_of v = ahead_by v.over v.rest

-- no request that a turn submits is in the run yet
abbrev pub IsNew : Option Numbered1 → Story → Type 0
IsNew turn s = (req : ℕ) → has (submit_in turn) req ≡ true → has_req req s.beside.requests ≡ false

-- whether a lane is spent by its step
abbrev pub is_spent : Stepped → Bool
is_spent Ran = false
is_spent Ended = false
is_spent Spent = true

-- what each lane told
abbrev pub told_by : Runner → List (List Event)
told_by r = map (λ v. told_events v.desk.events) r.lanes.items

-- the units that a lane has left, or none where it is spent
abbrev pub left_if : Bool → ℕ → Runner → Option ℕ
left_if spent lane r = by spent
  where
    by : Bool → Option ℕ
    by true = None
    by false = Some (left_of lane r)

-- A lane took a turn that was paid for: what it makes and tells was added to what was there, and no other lane's units
-- nor its lines changed, and nothing at the drain's desk. No request was lost, unless the lane is spent.
pub record Takes (lane : ℕ) (p : Paid) (left : Option ℕ) (a b : Runner) (s t : Story) : Type 0 where
  pub tied : IsTied b t
  pub state : state_by b t ≡ p.step.state
  pub rows : t.rows ≡ s.rows ++ p.step.rows
  pub orders : orders_in b.keeper.entries ≡ orders_in a.keeper.entries ++ p.step.orders
  pub told : told_by b ≡ slice_set (told_by a) lane (told_events (lane_at lane a).desk.events ++ p.step.events)
  pub paid : p.left ≡ left
  pub lanes : b.lanes.items ≡ slice_set a.lanes.items lane (lane_at lane b)
  pub desk : desk_of b.drain ≡ desk_of a.drain
  pub others : (other : ℕ) → other < 17 → (other ≡ lane → ⊥) → left_of other b ≡ left_of other a
  pub all : (rest : ℕ) → left ≡ Some rest → (req : ℕ) → total req b.lanes.items b.list (desk_of b.drain) ≡ total req a.lanes.items a.list (desk_of a.drain) + count_by (λ n. n == req) (submit_in (next_of (lane_at lane a)))
  pub ahead : (rest : ℕ) → left ≡ Some rest → ahead_of (lane_at lane a) ≡ next_of (lane_at lane a) ∷ ahead_of (lane_at lane b)
  pub reads : (pages : List (List ℕ)) → MayRead pages (lane_at lane a).rest → MayRead pages (lane_at lane b).rest
