-- What the calls of a desk do.
use Rattle.std.specs.Prelude.{◌≡◌, ℕ, zero, suc, ◌<◌, ◌≤◌, List, [], ◌∷◌, ◌++◌, map, None, Some, Result, Ok, Err, option_map}
use Rattle.std.specs.List.{last_or, AllByRecursion}
use Rattle.mp_words.specs.declared.near.Near.{Near}
use Rattle.mp_words.specs.declared.answers.Answer.{Answer}
use Rattle.mp_words.specs.declared.entry.OrderEntry.{OrderEntry}
use Rattle.mp_words.specs.declared.entry.RowEntry.{RowEntry}
use Rattle.mp_words.specs.declared.flight.Flight.{Flight}
use Rattle.mp_words.specs.declared.note.Note.{Note}
use Rattle.mp_words.specs.declared.op.Gift.{Gift}
use Rattle.mp_words.specs.declared.op.Op.{Op}
use Rattle.mp_words.specs.declared.op.Maker.{Maker}
use Rattle.mp_words.specs.declared.op.Maker.TheVariants as maker
use Rattle.mp_words.specs.declared.row.Policy.{Policy}
use Rattle.mp_words.specs.declared.row.Row.{Row}
use Rattle.mp_words.specs.declared.trying.Outcome.TheVariants as outcome
use Rattle.mp_words.specs.declared.trying.Try.{Try}
use Rattle.mp_words.specs.Request.{asked_of, outcome_of}
use Rattle.mp_words.specs.RequestView.{RequestView}
use Rattle.mp_record.specs.declared.event.Event.TheVariants as event
use Rattle.mp_record.specs.declared.event.Said.TheVariants as said
use Rattle.mp_core.specs.declared.view.Seen.{Seen}
use Rattle.mp_core.specs.Core.{Core}
use Rattle.mp_core.specs.Memory.{Memory, landed_in}
use Rattle.mp_core.specs.Kinds.{Lands}
use Rattle.mp_change.specs.declared.change.ChangeEnd.{ChangeEnd}
use Rattle.mp_change.specs.declared.change.ChangeEnd.TheVariants as ending
use Rattle.mp_change.specs.Changes.{ChangesPath, IsMoved}
use Rattle.mp_submit.specs.declared.finish.Finished.{Finished}
use Rattle.mp_submit.specs.declared.finish.Finished.TheVariants as finished
use Rattle.mp_submit.specs.declared.submit.Submitted.{Submitted}
use Rattle.mp_submit.specs.Finishes.{Finishes}
use Rattle.mp_submit.specs.Submits.{Submits}
use Rattle.mp_keep.specs.declared.added.Added.{Added}
use Rattle.mp_keep.specs.declared.add_error.AddError.{AddError}
use Rattle.mp_keep.specs.declared.reaped.Reaped.{Reaped}
use Rattle.mp_keep.specs.declared.remove_error.RemoveError.{RemoveError}
use Rattle.mp_keep.specs.declared.remove_error.RemoveError.TheVariants as refused
use Rattle.mp_keep.specs.Keeper.{KeeperView}
use Rattle.mp_keep.specs.Keeps.{Adds, Removes, SetsPolicy}
use Rattle.mp_keep.specs.Walks as walk
use Rattle.mp_desk.specs.declared.flying.Flying.{Flying}
use Rattle.mp_desk.specs.DeskView.{DeskView, noting, entering, placing, landing, flying_with}
use Rattle.mp_desk.specs.Says.{section, moved_section, try_event, back_in, end_event, entries_back, sections_of, said_of, entry_in, entry_added, added_said, entry_marked, marked_said, reaped_said}
use Rattle.mp_desk.specs.declared.halt.Halt.{Halt}
use Rattle.mp_desk.specs.declared.halt.Halt.TheVariants as halt

-- one thing that a lane does
pub data DeskCall : Type 0 where
  submit : RequestView → DeskCall
  finish : Flying → DeskCall
  change : ℕ → Op → DeskCall
  add : Gift → DeskCall
  remove : ℕ → DeskCall
  set_policy : Policy → DeskCall
  reap : DeskCall

-- how many units a call needs
abbrev pub needs : DeskCall → ℕ
needs (submit request) = 1
needs (finish flying) = 1
needs (change ctrl op) = 1
needs (add gift) = 2
needs (remove ctrl) = 1
needs (set_policy policy) = 1
needs reap = 16

-- by what a lane goes: how far nodes are from each other, the scripted statuses, and the number of the line
pub record Means : Type 0 where
  pub near : Near
  pub answers : List Answer
  pub line : ℕ

-- where a lane stands: what its pass knows, its desk, and the keeper
pub record Stand : Type 0 where
  pub core : Core
  pub desk : DeskView
  pub keeper : KeeperView

-- the maker of the entries of a line
abbrev pub maker_at : Means → Stand → Maker
maker_at w p = maker.Line p.core.lane w.line

-- a request, whatever its room
abbrev pub bare : RequestView → RequestView
bare r = record r { spare = 0 }

-- the keeper with so much room
abbrev pub with_room : ℕ → KeeperView → KeeperView
with_room spare k = record k { spare = spare }

-- the same pass and keeper, with this desk
abbrev pub at_desk : DeskView → Stand → Stand
at_desk d p = record p { desk = d }

-- A submit of a request: a section, and a try.
pub record Submitting (w : Means) (r : RequestView) (p q : Stand) : Type 0 where
  pub before : RequestView
  pub after : RequestView
  pub answer : Submitted
  pub made : Try
  pub same : bare before ≡ bare r
  pub submits : Submits w.near p.core q.core before after answer made
  pub desk : q.desk ≡ placing p.core.lane after made.end (noting (section made.note ∷ try_event after made ∷ []) p.desk)
  pub keeper : q.keeper ≡ p.keeper

-- The row has moved that was to be marked.
abbrev pub HasMoved : Result RowEntry RemoveError → Type 0
HasMoved (Ok entry) = ⊥
HasMoved (Err (refused.NoPath order)) = ⊥
HasMoved (Err (refused.Moved row)) = Unit {0}

-- The row has moved whose path was to be left.
abbrev pub HasLeft : Finished → Type 0
HasLeft (finished.Done status) = Unit {0}
HasLeft (finished.Back n) = Unit {0}
HasLeft (finished.Moved f row n) = ⊥

-- A flight that was taken from the desk stays, since another change of its path's row came between: a section.
pub record FlightStays (w : Means) (f : Flying) (p q : Stand) : Type 0 where
  pub paid : 1 ≤ p.core.view.left
  pub row : Row
  pub note : Note
  pub finishes : Finishes w.answers p.core q.core f.flight f.request f.request (finished.Moved f.flight row note)
  pub desk : q.desk ≡ noting (moved_section note f.flight.slot row.version ∷ []) p.desk
  pub keeper : q.keeper ≡ p.keeper

-- A flight that was taken from the desk ends: its request has ended, or came back and is to be listed.
pub record FlightEnds (w : Means) (f : Flying) (p q : Stand) : Type 0 where
  pub paid : 1 ≤ p.core.view.left
  pub after : RequestView
  pub answer : Finished
  pub finishes : Finishes w.answers p.core q.core f.flight f.request after answer
  pub left : HasLeft answer
  pub made : (last : Try) × (last_or None after.tries ≡ Some last)
  pub desk : q.desk ≡ landing after (back_in (last_or None after.tries)) (entering (entries_back (back_in (last_or None after.tries))) (noting (sections_of answer ++ end_event after (last_or None after.tries)) p.desk))
  pub keeper : q.keeper ≡ p.keeper

-- A flight that was taken from the desk ends with its lane, for which no unit is left.
pub record FlightFalls (f : Flying) (p q : Stand) : Type 0 where
  pub short : p.core.view.left < 1
  pub lands : Lands p.core q.core f.flight
  pub desk : q.desk ≡ p.desk
  pub keeper : q.keeper ≡ p.keeper

-- A row change meets another change of the row: a section.
pub record ChangeStays (w : Means) (ctrl : ℕ) (op : Op) (p q : Stand) : Type 0 where
  pub paid : 1 ≤ p.core.view.left
  pub slot : ℕ
  pub row : Row
  pub note : Note
  pub seen : Seen
  pub changes : ChangesPath ctrl op (maker_at w p) p.core q.core (ending.Moved slot row) note seen
  pub desk : q.desk ≡ noting (moved_section note slot row.version ∷ []) p.desk
  pub keeper : q.keeper ≡ p.keeper

-- A row change ends: a section, and what the line says of it.
pub record ChangeEnds (w : Means) (ctrl : ℕ) (op : Op) (p q : Stand) : Type 0 where
  pub paid : 1 ≤ p.core.view.left
  pub end : ChangeEnd
  pub note : Note
  pub seen : Seen
  pub changes : ChangesPath ctrl op (maker_at w p) p.core q.core end note seen
  pub still : IsMoved end → ⊥
  pub desk : q.desk ≡ entering (entry_in end) (noting (section note ∷ map (event.At w.line) (said_of end)) p.desk)
  pub keeper : q.keeper ≡ p.keeper

-- A path is added, or refused.
pub record Adding (w : Means) (gift : Gift) (p q : Stand) : Type 0 where
  pub room : ℕ
  pub answer : Result Added AddError
  pub adds : Adds (with_room room p.keeper) q.keeper p.core q.core gift (maker_at w p) answer
  pub desk : q.desk ≡ entering (entry_added answer) (noting (event.At w.line (added_said answer) ∷ []) p.desk)

-- The begin of a removal meets another change of the row. It is told by nothing but the unit.
pub record RemovalStays (w : Means) (ctrl : ℕ) (p q : Stand) : Type 0 where
  pub paid : 1 ≤ p.core.view.left
  pub room : ℕ
  pub row : Row
  pub removes : Removes (with_room room p.keeper) q.keeper p.core q.core ctrl (maker_at w p) (Err (refused.Moved row))
  pub desk : q.desk ≡ p.desk

-- A removal begins, or is refused.
pub record RemovalBegins (w : Means) (ctrl : ℕ) (p q : Stand) : Type 0 where
  pub paid : 1 ≤ p.core.view.left
  pub room : ℕ
  pub answer : Result RowEntry RemoveError
  pub removes : Removes (with_room room p.keeper) q.keeper p.core q.core ctrl (maker_at w p) answer
  pub still : HasMoved answer → ⊥
  pub desk : q.desk ≡ entering (entry_marked answer) (noting (map (event.At w.line) (marked_said answer)) p.desk)

-- The policy is set.
pub record SettingPolicy (w : Means) (policy : Policy) (p q : Stand) : Type 0 where
  pub room : ℕ
  pub entry : OrderEntry
  pub sets : SetsPolicy (with_room room p.keeper) q.keeper p.core q.core policy (maker_at w p) entry
  pub desk : q.desk ≡ noting (event.At w.line (said.Policy entry.order.version) ∷ []) p.desk

-- The removals go on.
pub record Reaping (w : Means) (p q : Stand) : Type 0 where
  pub room : ℕ
  pub answer : Reaped
  pub reaps : walk.Reaps (with_room room p.keeper) q.keeper p.core q.core (maker_at w p) answer
  pub desk : q.desk ≡ entering (walk.entries_of answer) (noting (event.At w.line (reaped_said answer) ∷ []) p.desk)

-- so many tries meet another change of the row, and then it ends
abbrev pub After : ℕ → (Stand → Stand → Type 0) → (Stand → Stand → Type 0) → Stand → Stand → Type 0
After zero Stays Ends p q = Ends p q
After (suc n) Stays Ends p q = (m : Stand) × Stays p m × After n Stays Ends m q

-- The flight is the first of its request at the desk, and then it is taken.
pub record TakesFlying (f : Flying) (d e : DeskView) : Type 0 where
  pub before : List Flying
  pub after : List Flying
  pub was : d.flying ≡ before ++ f ∷ after
  pub none : flying_with f.flight.req before ≡ []
  pub is : e ≡ record d { flying = before ++ after }

-- A flight is taken from the desk, and goes so.
pub record Taking (f : Flying) (Goes : Stand → Stand → Type 0) (p q : Stand) : Type 0 where
  pub desk : DeskView
  pub takes : TakesFlying f p.desk desk
  pub goes : Goes (at_desk desk p) q

-- fewer units are left than are needed, and nothing is done
abbrev pub IsShort : ℕ → Stand → Stand → Type 0
IsShort needed p q = (p.core.view.left < needed) × (q ≡ p)

-- What a call does. Where another lane comes between it tries again.
abbrev pub GoesTo : Means → DeskCall → Stand → Stand → Type 0
GoesTo w (submit request) p q = Submitting w request p q
GoesTo w (finish flying) p q = (n : ℕ) × Taking flying (After n (FlightStays w flying) (FlightEnds w flying)) p q
GoesTo w (change ctrl op) p q = (n : ℕ) × After n (ChangeStays w ctrl op) (ChangeEnds w ctrl op) p q
GoesTo w (add gift) p q = Adding w gift p q
GoesTo w (remove ctrl) p q = (n : ℕ) × After n (RemovalStays w ctrl) (RemovalBegins w ctrl) p q
GoesTo w (set_policy policy) p q = SettingPolicy w policy p q
GoesTo w reap p q = Reaping w p q

-- What a call does that its units were enough for.
pub record CallTo (w : Means) (c : DeskCall) (p q : Stand) : Type 0 where
  pub enough : needs c ≤ p.core.view.left
  pub goes : GoesTo w c p q

-- What a call does that its units weren't enough for: its tries that met another change of the row.
abbrev pub StopTo : Means → DeskCall → Stand → Stand → Type 0
StopTo w (submit request) p q = IsShort 1 p q
StopTo w (finish flying) p q = (n : ℕ) × Taking flying (After n (FlightStays w flying) (FlightFalls flying)) p q
StopTo w (change ctrl op) p q = (n : ℕ) × After n (ChangeStays w ctrl op) (IsShort 1) p q
StopTo w (add gift) p q = IsShort 2 p q
StopTo w (remove ctrl) p q = (n : ℕ) × After n (RemovalStays w ctrl) (IsShort 1) p q
StopTo w (set_policy policy) p q = IsShort 1 p q
StopTo w reap p q = IsShort 16 p q

-- nothing is done
abbrev pub DoesNothing : Stand → Stand → Type 0
DoesNothing p q = q ≡ p

-- nothing is done, but the keeper may have more room
pub record MakesRoom (p q : Stand) : Type 0 where
  pub room : ℕ
  pub same : q ≡ record p { keeper = with_room room p.keeper }

-- A flight that was taken from the desk ends with its lane, for which memory ran out.
pub record FlightDrops (f : Flying) (p q : Stand) : Type 0 where
  pub lands : Lands p.core q.core f.flight
  pub desk : q.desk ≡ p.desk
  pub keeper : q.keeper ≡ p.keeper

-- What a call does for which memory ran out: its tries that met another change of the row.
abbrev pub BreakTo : Means → DeskCall → Stand → Stand → Type 0
BreakTo w (submit request) p q = DoesNothing p q
BreakTo w (finish flying) p q = (n : ℕ) × Taking flying (After n (FlightStays w flying) (FlightDrops flying)) p q
BreakTo w (change ctrl op) p q = (n : ℕ) × After n (ChangeStays w ctrl op) DoesNothing p q
BreakTo w (add gift) p q = MakesRoom p q
BreakTo w (remove ctrl) p q = (n : ℕ) × After n (RemovalStays w ctrl) MakesRoom p q
BreakTo w (set_policy policy) p q = MakesRoom p q
BreakTo w reap p q = MakesRoom p q

-- The call is one that every lane makes.
abbrev pub IsLaneCall : DeskCall → Type 0
IsLaneCall (submit request) = Unit {0}
IsLaneCall (finish flying) = Unit {0}
IsLaneCall (change ctrl op) = Unit {0}
IsLaneCall (add gift) = ⊥
IsLaneCall (remove ctrl) = ⊥
IsLaneCall (set_policy policy) = ⊥
IsLaneCall reap = ⊥

-- what these calls do, one after the other
abbrev pub CallsTo : Means → List DeskCall → Stand → Stand → Type 0
CallsTo w [] p q = q ≡ p
CallsTo w (c ∷ cs) p q = (m : Stand) × CallTo w c p m × CallsTo w cs m q

-- What these calls do of which one stops for want of units: those before it are done, and none behind it.
pub record StopsTo (w : Means) (calls : List DeskCall) (p q : Stand) : Type 0 where
  pub before : List DeskCall
  pub stopped : DeskCall
  pub behind : List DeskCall
  pub split : calls ≡ before ++ stopped ∷ behind
  pub mid : Stand
  pub done : CallsTo w before p mid
  pub stops : StopTo w stopped mid q

-- What these calls do of which one breaks off for want of memory: those before it are done, and none behind it.
pub record BreaksTo (w : Means) (calls : List DeskCall) (p q : Stand) : Type 0 where
  pub before : List DeskCall
  pub broken : DeskCall
  pub behind : List DeskCall
  pub split : calls ≡ before ++ broken ∷ behind
  pub mid : Stand
  pub done : CallsTo w before p mid
  pub breaks : BreakTo w broken mid q

-- What was done where memory ran out. Another end tells nothing.
abbrev pub IfWant : {T : Type 0} → Result T Halt → Type 0 → Type 0
IfWant (Ok x) Broken = Unit {0}
IfWant (Err halt.Spent) Broken = Unit {0}
IfWant (Err halt.NoMemory) Broken = Broken

-- What was done, if it ended well, and what was done where units were short. Want of memory tells nothing.
abbrev pub Does : {T : Type 0} → Result T Halt → Type 0 → Type 0 → Type 0
Does (Ok x) Done Stopped = Done
Does (Err halt.Spent) Done Stopped = Stopped
Does (Err halt.NoMemory) Done Stopped = Unit {0}

-- the request of a flight has its number, and was sent
abbrev pub IsAloft : Flying → Type 0
IsAloft f = (f.request.id ≡ f.flight.req) × (outcome_of (last_or None (asked_of f.request).tries) ≡ outcome.Sent)

-- the request waits
abbrev pub IsWaiting : RequestView → Type 0
IsWaiting r = outcome_of (last_or None (asked_of r).tries) ≡ outcome.Waiting

-- A pass sits at its desk between two calls: no section is open, its flights are those of the desk, whose requests were
-- sent, and what is to be listed waits.
pub record Sits (c : Core) (d : DeskView) : Type 0 where
  pub closed : c.view.inside ≡ None
  pub flights : c.view.flights ≡ map (λ f. f.flight) d.flying
  pub aloft : AllByRecursion IsAloft d.flying
  pub waiting : AllByRecursion IsWaiting d.out

-- A call keeps the table of a pass, its lane, the other views, and with what its steps began.
pub record KeepsPass (a b : Core) : Type 0 where
  pub home : b.home ≡ a.home
  pub lane : b.lane ≡ a.lane
  pub alone : b.alone ≡ a.alone
  pub others : b.others ≡ a.others
  pub role : b.view.role ≡ a.view.role
  pub start : b.view.keeping.start ≡ a.view.keeping.start

-- the words after these flights ended
abbrev pub landed_all : List Flight → Memory → Memory
landed_all [] m = m
landed_all (f ∷ flights) m = landed_all flights (landed_in f.slot m)

-- All flights of the desk have ended, and nothing else was done.
pub record EndsAll (a b : Core) (d e : DeskView) : Type 0 where
  pub core : b ≡ record a { view = record (a.view) { flights = []; keeping = record (a.view.keeping) { last = b.view.keeping.last } }; told = option_map (landed_all (map (λ f. f.flight) d.flying)) a.told }
  pub desk : e ≡ record d { flying = [] }
