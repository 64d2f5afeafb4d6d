-- Turns that the lanes take one by one, as far as they are paid for.
use Rattle.std.specs.Prelude.{[], ◌≡◌, ◌+◌, ◌<◌, ◌==◌, count_by, ℕ, Bool, true, false, List, ◌∷◌, ◌++◌, map, filter, length, replicate, position, is_none, None, Option, slice_index_or, slice_set}
use Rattle.std.specs.List.{flat_map, range_with_len}
use Rattle.mp_script.specs.declared.script.Numbered1.{Numbered1}
use Rattle.mp_script.specs.declared.script.LanePlan.{LanePlan}
use Rattle.mp_script.specs.Distinct.{IsDistinct}
use Rattle.mp_desk.specs.Desks.{desk_of}
use Rattle.mp_lane.specs.LaneView.{LaneView}
use Rattle.mp_lane.specs.Steps.{MayRead}
use Rattle.mp_legal.specs.ToldKeeper.{orders_in}
use Rattle.mp_legal.specs.PlainCall.{Inputs}
use Rattle.mp_legal.specs.PlainRun.{events_in, state_after}
use Rattle.mp_legal.specs.Turns.{Turn, turns_of}
use Rattle.mp_legal.specs.Units.{Paid, Paying, pay_turns}
use Rattle.mp_run.specs.declared.runner.Runner.{Runner}
use Rattle.mp_run.specs.Beginning.{first_story}
use Rattle.mp_run.specs.LaneTurns.{submit_in, turns_submits}
use Rattle.mp_run.specs.OnTurns.{Stage}
use Rattle.mp_run.specs.Runner.{ahead_of, lane_at, left_if, left_of, next_of, state_by, told_by, total, IsTied, Story}

-- the units that a lane has left, if it isn't spent
abbrev pub left_or : List Bool → ℕ → Runner → Option ℕ
left_or spent lane r = left_if (slice_index_or spent lane false) lane r

-- the units that each of so many lanes has left, if it isn't spent
abbrev pub lefts_or : ℕ → List Bool → Runner → List (Option ℕ)
lefts_or count spent r = map (λ lane. left_or spent lane r) (range_with_len 0 count)

-- how far a run has come whose lanes are spent or not
abbrev pub stage_by : List Bool → Runner → Story → Stage
stage_by spent r s = record {
  state = state_by r s;
  lefts = lefts_or (length r.lanes.items) spent r;
  rows = s.rows;
  orders = orders_in r.keeper.entries;
  lanes = told_by r;
}

-- no request that turns submit is in the run yet, and none is submitted twice
abbrev pub AreNew : List Turn → Story → Type 0
AreNew turns s = IsDistinct (map (λ a. a.req) s.beside.requests ++ turns_submits turns)

-- the turns of one lane
abbrev pub turns_at : ℕ → List Turn → List (Option Numbered1)
turns_at lane turns = map (λ t. t.line) (filter (λ t. t.lane == lane) turns)

-- A lane that isn't spent has these turns left, and pages that may be read.
abbrev pub AreAhead : List (List ℕ) → List Bool → List Turn → Runner → Type 0
AreAhead pages spent turns r =
    (n : ℕ) → n < length r.lanes.items → slice_index_or spent n false ≡ false
    → (turns_at n turns ≡ ahead_of (lane_at n r)) × MayRead pages (lane_at n r).rest

-- how many requests of a number a run has
abbrev pub total_of : ℕ → Runner → ℕ
total_of req r = total req r.lanes.items r.list (desk_of r.drain)

-- how often a number is among these
abbrev pub often : ℕ → List ℕ → ℕ
often req ns = count_by (λ n. n == req) ns

-- none of these lanes is spent
abbrev pub NoneSpent : List Bool → Type 0
NoneSpent spent = (n : ℕ) → slice_index_or spent n false ≡ false

-- A lane took its turn, as far as it was paid for, or was spent before and took none. The units of the other lanes and
-- of the drain stay, and so do the other lanes.
pub record TakesOr (lane : ℕ) (line : Option Numbered1) (p : Paid) (before after : List Bool) (a b : Runner) (s t : Story) : Type 0 where
  pub tied : IsTied b t
  pub state : state_by b t ≡ p.step.state
  pub rows : t.rows ≡ s.rows ++ p.step.rows
  pub orders : orders_in b.keeper.entries ≡ orders_in a.keeper.entries ++ p.step.orders
  pub told : told_by b ≡ slice_set (told_by a) lane (slice_index_or (told_by a) lane [] ++ p.step.events)
  pub count : length b.lanes.items ≡ length a.lanes.items
  pub desk : desk_of b.drain ≡ desk_of a.drain
  pub left : left_or after lane b ≡ p.left
  pub others : (other : ℕ) → other < 16 → (other ≡ lane → ⊥) → left_or after other b ≡ left_or before other a
  pub drain : left_of 16 b ≡ left_of 16 a
  pub lanes : (other : ℕ) → (other ≡ lane → ⊥) → lane_at other b ≡ lane_at other a
  pub spent : (other : ℕ) → (other ≡ lane → ⊥) → slice_index_or after other false ≡ slice_index_or before other false
  pub was : slice_index_or after lane false ≡ false → slice_index_or before lane false ≡ false
  pub all : slice_index_or after lane false ≡ false → (req : ℕ) → total_of req b ≡ total_of req a + often req (submit_in line)
  pub ahead : slice_index_or after lane false ≡ false → ahead_of (lane_at lane a) ≡ line ∷ ahead_of (lane_at lane b)
  pub reads : slice_index_or after lane false ≡ false → (pages : List (List ℕ)) → MayRead pages (lane_at lane a).rest → MayRead pages (lane_at lane b).rest

-- A lane may take this turn: it isn't over, the turn is its next, and the pages that it names may be read.
pub record IsReady (pages : List (List ℕ)) (line : Option Numbered1) (v : LaneView) : Type 0 where
  pub goes_on : v.over ≡ false
  pub next : next_of v ≡ line
  pub reads : MayRead pages v.rest

-- all turns of lanes of which none is spent, from the start
abbrev pub all_turns : Inputs → List LanePlan → Runner → Paying
all_turns i plans r = pay_turns i (state_by r first_story) (lefts_or (length r.lanes.items) (replicate 16 false) r) (turns_of plans)

-- All turns of the lanes were taken as far as they were paid for. The units of the drain stay.
pub record TakesAll (i : Inputs) (plans : List LanePlan) (a b : Runner) (t : Story) : Type 0 where
  pub tied : IsTied b t
  pub state : state_by b t ≡ state_after (state_by a first_story) (all_turns i plans a).taken
  pub rows : t.rows ≡ flat_map (λ x. x.step.rows) (all_turns i plans a).taken
  pub orders : orders_in b.keeper.entries ≡ orders_in a.keeper.entries ++ flat_map (λ x. x.step.orders) (all_turns i plans a).taken
  pub told : told_by b ≡ map (events_in (all_turns i plans a).taken) (range_with_len 0 (length plans))
  pub count : length b.lanes.items ≡ length plans
  pub desk : desk_of b.drain ≡ desk_of a.drain
  pub over : (n : ℕ) → n < length plans → position is_none (all_turns i plans a).lefts ≡ None → (lane_at n b).over ≡ true
  pub all : (req : ℕ) → position is_none (all_turns i plans a).lefts ≡ None → total_of req b ≡ total_of req a + often req (turns_submits (turns_of plans))
  pub drain : left_of 16 b ≡ left_of 16 a
