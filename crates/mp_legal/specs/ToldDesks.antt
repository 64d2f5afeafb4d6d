-- The calls of a lane's desk against the plain run, where the words are told.
use Rattle.std.specs.Prelude.{◌≡◌, ℕ, ◌+◌, ◌≤◌, ◌<◌, ◌==◌, true, false, List, [], ◌∷◌, ◌++◌, map, filter, count_by, slice_index_or, None}
use Rattle.std.specs.List.{flat_map, AllByRecursion}
use Rattle.mp_checks.specs.Marks.{has}
use Rattle.mp_script.specs.Distinct.{IsDistinct}
use Rattle.mp_words.specs.declared.flight.Flight.{Flight}
use Rattle.mp_words.specs.Effect.{IsState}
use Rattle.mp_words.specs.Request.{Asked, asked_of}
use Rattle.mp_words.specs.RequestView.{RequestView}
use Rattle.mp_record.specs.declared.event.Event.{Event}
use Rattle.mp_record.specs.RunView.{is_plain}
use Rattle.mp_core.specs.Kinds.{Lands}
use Rattle.mp_core.specs.Memory.{Memory}
use Rattle.mp_change.specs.Changes.{IsLineOp}
use Rattle.mp_keep.specs.Keeper.{KeeperView, StandsTo, IsSound}
use Rattle.mp_desk.specs.DeskView.{DeskView}
pub use Rattle.mp_desk.specs.Calls.{IsLaneCall}
use Rattle.mp_desk.specs.Calls.{DeskCall, submit, finish, change, add, remove, set_policy, reap, Means, Stand, Sits, KeepsPass, TakesFlying, needs}
use Rattle.mp_legal.specs.Numbers.{has_req, asked_at}
use Rattle.mp_legal.specs.PlainCall as plain
use Rattle.mp_legal.specs.PlainCall.{Call, Inputs}
use Rattle.mp_legal.specs.PlainState.{with_new}
use Rattle.mp_legal.specs.Stepped.{Stepped, Place}
use Rattle.mp_legal.specs.ToldKeeper.{KeepsAt, NobodyInside, orders_in}
use Rattle.mp_legal.specs.ToldState.{Beside, IsAt, state_in}
use Rattle.mp_legal.specs.TryRead.{notes_of, notes_for}
use Rattle.mp_legal.specs.Units.{Paid}

-- the events without the sections
abbrev pub told_events : List Event → List Event
told_events events = filter is_plain events

-- what a call of a desk is in the plain run
abbrev pub plain_of : DeskCall → Call
plain_of (submit request) = plain.submit request.id
plain_of (finish flying) = plain.finish flying.flight
plain_of (change ctrl op) = plain.change ctrl op
plain_of (add gift) = plain.add gift
plain_of (remove ctrl) = plain.remove ctrl
plain_of (set_policy policy) = plain.set_policy policy
plain_of reap = plain.reap

-- the line of a lane at which it stands
abbrev pub place_at : Means → Stand → Place
place_at w p = record { lane = p.core.lane; line = w.line }

-- A lane goes by what the plain run is given.
pub record GoesBy (i : Inputs) (w : Means) : Type 0 where
  pub near : i.topology.near ≡ w.near
  pub answers : i.answers ≡ w.answers

-- A request stands in a run as it is, and its tries read what the run says of its number.
pub record IsInRun (x : Beside) (r : RequestView) : Type 0 where
  pub there : has_req r.id x.requests ≡ true
  pub told : asked_at r.id x.requests ≡ asked_of r
  pub read : notes_of r ≡ notes_for r.id x.reads

-- how many requests of this number a desk has: on their way, to be listed, and ended
abbrev pub times : ℕ → DeskView → ℕ
times req d =
    count_by (λ f. f.request.id == req) d.flying
    + (count_by (λ r. r.id == req) d.out + count_by (λ r. r.id == req) d.ended)

-- The requests of a desk stand in a run, and no two of them have the same number.
pub record AreInRun (x : Beside) (d : DeskView) : Type 0 where
  pub flying : AllByRecursion (λ f. IsInRun x f.request) d.flying
  pub out : AllByRecursion (IsInRun x) d.out
  pub ended : AllByRecursion (IsInRun x) d.ended
  pub once : (req : ℕ) → times req d ≤ 1

-- The keeper that a lane has stands to its steps, and agrees with the plain state.
pub record KeepsIn (p : Stand) (m : Memory) (x : Beside) : Type 0 where
  pub stands : StandsTo p.keeper p.core.view
  pub agrees : KeepsAt p.keeper (state_in m x)

-- A lane sits at its desk in a run of these words, between two calls: its pass stands on them, its requests stand in
-- the run, and those that it is to list are listed behind those that were listed before its turn. Nobody is inside a
-- side, and nothing was read for a request that the run hasn't.
pub record SitsAt (p : Stand) (before : List ℕ) (m : Memory) (x : Beside) : Type 0 where
  pub at : IsAt p.core m x
  pub sits : Sits p.core p.desk
  pub own : AllByRecursion (λ f. f.flight.lane ≡ p.core.lane) p.desk.flying
  pub requests : AreInRun x p.desk
  pub waiting : x.waiting ≡ before ++ map (λ r. r.id) p.desk.out
  pub nobody : NobodyInside m
  pub noted : (req : ℕ) → has_req req x.requests ≡ false → notes_for req x.reads ≡ []

-- A request that stands in the run, and none of whose number is at the desk.
pub record MaySubmit (r : RequestView) (p : Stand) (x : Beside) : Type 0 where
  pub stands : IsInRun x r
  pub elsewhere : times r.id p.desk ≡ 0

-- What a call needs beside its units: of a submit that the request stands in the run and isn't at the desk, of a row
-- change that it is a line's, of an add that the ANA state is from 1 to 15; and of the keeper's calls that the lane has
-- the keeper, who agrees with the run. A finish says itself that the flight is at the desk.
abbrev pub MayCall : DeskCall → Stand → Memory → Beside → Type 0
MayCall (submit request) p m x = MaySubmit request p x
MayCall (finish flying) p m x = Unit {0}
MayCall (change ctrl op) p m x = IsLineOp op
MayCall (add gift) p m x = KeepsIn p m x × IsState gift.state
MayCall (remove ctrl) p m x = KeepsIn p m x
MayCall (set_policy policy) p m x = KeepsIn p m x
MayCall reap p m x = KeepsIn p m x

-- the number of the request that a call submits
abbrev pub submitted_by : DeskCall → List ℕ
submitted_by (submit request) = request.id ∷ []
submitted_by (finish flying) = []
submitted_by (change ctrl op) = []
submitted_by (add gift) = []
submitted_by (remove ctrl) = []
submitted_by (set_policy policy) = []
submitted_by reap = []

-- the number of the request that a call is about
abbrev pub number_of : DeskCall → List ℕ
number_of (submit request) = request.id ∷ []
number_of (finish flying) = flying.flight.req ∷ []
number_of (change ctrl op) = []
number_of (add gift) = []
number_of (remove ctrl) = []
number_of (set_policy policy) = []
number_of reap = []

-- What calls need beside their units: what each needs, and that no request is submitted twice.
pub record MayCalls (calls : List DeskCall) (p : Stand) (m : Memory) (x : Beside) : Type 0 where
  pub each : AllByRecursion (λ c. MayCall c p m x) calls
  pub once : IsDistinct (flat_map submitted_by calls)

-- the flights of a lane
abbrev pub flights_in : ℕ → Beside → List Flight
flights_in lane x = slice_index_or x.flights lane []

-- The request of a number stands in the run as it did.
pub record IsSameIn (req : ℕ) (x y : Beside) : Type 0 where
  pub there : has_req req y.requests ≡ has_req req x.requests
  pub told : asked_at req y.requests ≡ asked_at req x.requests
  pub read : notes_for req y.reads ≡ notes_for req x.reads

-- A step of the plain run leads a lane on from its desk by these calls: it sits at its desk where the step leads, and
-- has made and told what the step makes and tells. A keeper that it has agrees still. Nothing of another lane is
-- changed: not its flights, nor the requests that none of the calls is about; and where all are such that every lane
-- makes, a keeper elsewhere agrees still.
pub record Leads
    (step : Stepped) (calls : List DeskCall) (p q : Stand) (before : List ℕ) (m : Memory) (x : Beside)
    : Type 0 where
  pub memory : Memory
  pub beside : Beside
  pub sits : SitsAt q before memory beside
  pub state : step.state ≡ state_in memory beside
  pub rows : q.desk.rows ≡ p.desk.rows ++ step.rows
  pub orders : orders_in q.keeper.entries ≡ orders_in p.keeper.entries ++ step.orders
  pub events : told_events q.desk.events ≡ told_events p.desk.events ++ step.events
  pub pass : KeepsPass p.core q.core
  pub keeper : KeepsIn p m x → KeepsIn q memory beside
  pub desk : (req : ℕ) → has (flat_map number_of calls) req ≡ false → times req q.desk ≤ times req p.desk
  pub requests : (req : ℕ) → has (flat_map number_of calls) req ≡ false → IsSameIn req x beside
  pub flights : (lane : ℕ) → (lane ≡ p.core.lane → ⊥) → flights_in lane beside ≡ flights_in lane x
  pub agrees :
      AllByRecursion IsLaneCall calls → (k : KeeperView) → IsSound k → KeepsAt k (state_in m x)
      → KeepsAt k (state_in memory beside)

-- What a call leaves that stops for want of units: a flight that was taken from the desk has fallen; else nothing is
-- done.
abbrev pub FallsBy : DeskCall → Stand → Stand → Type 0
FallsBy (submit request) p q = q ≡ p
FallsBy (finish f) p q = TakesFlying f p.desk q.desk × Lands p.core q.core f.flight × (q.keeper ≡ p.keeper)
FallsBy (change ctrl op) p q = q ≡ p
FallsBy (add gift) p q = q ≡ p
FallsBy (remove ctrl) p q = q ≡ p
FallsBy (set_policy policy) p q = q ≡ p
FallsBy reap p q = q ≡ p

-- Calls of a desk stopped, where the plain run's can't be paid any more: what was paid for leads to where one stopped,
-- which has done nothing, but that a flight may have fallen.
pub record Stops
    (paid : Paid) (calls : List DeskCall) (p q : Stand) (before : List ℕ) (m : Memory) (x : Beside)
    : Type 0 where
  pub mid : Stand
  pub stopped : DeskCall
  pub leads : Leads paid.step calls p mid before m x
  pub spent : paid.left ≡ None
  pub short : mid.core.view.left < needs stopped
  pub falls : FallsBy stopped mid q

-- A lane elsewhere that has done nothing since, at its next turn: it knows the words that another lane left.
pub record IsNext (left before after : Stand) : Type 0 where
  pub lane : after.core.lane ≡ before.core.lane
  pub told : after.core.told ≡ left.core.told
  pub inside : after.core.view.inside ≡ before.core.view.inside
  pub flights : after.core.view.flights ≡ before.core.view.flights
  pub desk : after.desk ≡ before.desk

-- None of the calls is about a request of the desk.
abbrev pub AreElsewhere : List DeskCall → DeskView → Type 0
AreElsewhere calls d = (req : ℕ) → has (flat_map number_of calls) req ≡ true → times req d ≡ 0

-- what a run has with one more request
abbrev pub with_request : RequestView → Beside → Beside
with_request r x =
    let new : Asked = record { req = r.id; node = r.node; tries = [] } in record x { requests = with_new new x.requests }

-- what a run has with this list of waiting requests
abbrev pub with_waiting : List ℕ → Beside → Beside
with_waiting waiting x = record x { waiting = waiting }

-- a lane once its desk's requests to be listed were listed
abbrev pub once_listed : Stand → Stand
once_listed p = record p { desk = record (p.desk) { out = [] } }
