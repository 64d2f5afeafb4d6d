-- What a walk over the removals under way does.
use Rattle.std.specs.Prelude.{◌≡◌, ◌≢◌, ℕ, zero, suc, ◌+◌, ◌-◌, ◌*◌, ◌<◌, ◌≤◌, ◌==◌, ◌&&◌, ◌↔◌, Bool, true, false, not, List, [], ◌∷◌, ◌++◌, filter, find, length, Option, None, Some, slice_set}
use Rattle.std.specs.List.{remove}
use Rattle.mp_words.specs.declared.row.Row.{Row}
use Rattle.mp_words.specs.declared.op.Op.TheVariants as op
use Rattle.mp_words.specs.declared.op.Maker.{Maker}
use Rattle.mp_words.specs.declared.entry.RowEntry.{RowEntry}
use Rattle.mp_words.specs.declared.entry.OrderEntry.{OrderEntry}
use Rattle.mp_words.specs.declared.entry.Closing.{Closing}
use Rattle.mp_words.specs.declared.entry.Grace.{Grace}
use Rattle.mp_words.specs.declared.entry.Grace.TheVariants.{A, B}
use Rattle.mp_words.specs.declared.entry.KeepEntry.{KeepEntry}
use Rattle.mp_words.specs.declared.entry.KeepEntry.TheVariants as keep
use Rattle.mp_words.specs.Order.{slots_of}
use Rattle.mp_words.specs.Row.{is_given}
use Rattle.mp_core.specs.declared.view.Look.{Look}
use Rattle.mp_core.specs.declared.view.Look.TheVariants as look
use Rattle.mp_core.specs.declared.view.View.{View}
use Rattle.mp_core.specs.Core.{Core, stepped}
use Rattle.mp_core.specs.Memory.{row_in, order_in, flipped_in}
use Rattle.mp_core.specs.Views.{flipped, row_kept, order_stored}
use Rattle.mp_core.specs.Kinds.{RowTold, Looks, LooksDepth, entry_of}
use Rattle.mp_change.specs.Clears.{cleared_upto, cleared_upto_in}
use Rattle.mp_keep.specs.declared.reaped.Reaped.{Reaped}
use Rattle.mp_keep.specs.declared.reaped.Reaped.TheVariants.{Idle, Freed, Again}
use Rattle.mp_keep.specs.declared.stop.Stop.{Stop}
use Rattle.mp_keep.specs.declared.stop.Stop.TheVariants.{Section, Depth}
use Rattle.mp_keep.specs.declared.deep.Deep.{Deep}
use Rattle.mp_keep.specs.declared.removal.Removal.{Removal}
use Rattle.mp_keep.specs.declared.stage.Stage.{Stage}
use Rattle.mp_keep.specs.declared.stage.Stage.TheVariants.{Marked, HalfA, Unlisted, HalfB, Past}
use Rattle.mp_keep.specs.Keeper.{KeeperView, StandsTo, removal_at, is_past}
use Rattle.mp_keep.specs.Keeps.{next_entry, with_order, with_owner, held}

-- the side at which a removal looks next: each grace period looks first at the idle side, and its flip makes the other
-- one idle
abbrev pub next_side : Stage → ℕ
next_side Marked = 1
next_side HalfA = 0
next_side Unlisted = 0
next_side HalfB = 1
next_side Past = 0

-- the grace period of a removal's next look at a side
abbrev pub next_grace : Stage → Grace
next_grace Marked = A
next_grace HalfA = A
next_grace Unlisted = B
next_grace HalfB = B
next_grace Past = B

-- the stage after the next look at a side that finds nobody inside
abbrev pub next_stage : Stage → Stage
next_stage Marked = HalfA
next_stage HalfA = Unlisted
next_stage Unlisted = HalfB
next_stage HalfB = Past
next_stage Past = Past

-- the closing that a removal's next look at a side is, if it finds nobody inside
abbrev pub closing_of : Maker → KeeperView → Removal → ℕ → Closing
closing_of by k r entries = record {
  slot = r.slot;
  grace = next_grace r.stage;
  side = next_side r.stage;
  entries = entries;
  order = k.order.version;
  mark = r.mark;
  by = by;
}

-- the keeper with a closing more, whose removal has reached its next stage
abbrev pub with_closing : Maker → ℕ → ℕ → KeeperView → KeeperView
with_closing by place entries k = record k {
  removals = slice_set k.removals place (record (removal_at k place) { stage = next_stage (removal_at k place).stage });
  entries = k.entries ++ keep.Closing (closing_of by k (removal_at k place) entries) ∷ [];
  spare = k.spare - 1;
}

-- the keeper after a flip
abbrev pub with_flip : KeeperView → KeeperView
with_flip k = record k { flips = k.flips + 1 }

-- the next list of paths without a slot
abbrev pub entry_without : KeeperView → ℕ → Maker → OrderEntry
entry_without k slot by = next_entry k k.order.policy (filter (λ s. not (s == slot)) (slots_of k.order)) by

-- What the keeper does behind a closing, by the stage that it closes: behind the first of a grace period it flips, and
-- behind the second of A it stores the list of paths without the slot.
abbrev pub behind : Stage → ℕ → Maker → KeeperView → KeeperView
behind Marked slot by k = with_flip k
behind HalfA slot by k = with_order (entry_without k slot by) k
behind Unlisted slot by k = with_flip k
behind HalfB slot by k = k
behind Past slot by k = k

-- the keeper after a closing of the removal at a place, and what is done behind it
abbrev pub closed_keeper : Maker → ℕ → ℕ → KeeperView → KeeperView
closed_keeper by place entries k =
    behind (removal_at k place).stage (removal_at k place).slot by (with_closing by place entries k)

-- What the pass knows after a flip.
abbrev pub flipped_core : Core → Core
flipped_core c = stepped flipped flipped_in c

-- What the pass knows after the current words were cleared of a slot and a list of paths was stored.
abbrev pub unlisted_core : ℕ → OrderEntry → Core → Core
unlisted_core slot e c =
    stepped (λ v. order_stored e (cleared_upto slot 8 v)) (λ m. order_in e.order (cleared_upto_in slot 8 m)) c

-- what the pass knows after what is done behind a closing
abbrev pub behind_core : Stage → ℕ → OrderEntry → Core → Core
behind_core Marked slot e c = flipped_core c
behind_core HalfA slot e c = unlisted_core slot e c
behind_core Unlisted slot e c = flipped_core c
behind_core HalfB slot e c = c
behind_core Past slot e c = c

-- what the pass knows after what is done behind a closing of the removal at a place
abbrev pub closed_core : Maker → ℕ → KeeperView → Core → Core
closed_core by place k c =
    behind_core (removal_at k place).stage (removal_at k place).slot (entry_without k (removal_at k place).slot by) c

-- A look at a side for the removal at a place, which isn't past its grace periods.
pub record LooksAtSide (place side entries inside : ℕ) (k : KeeperView) (a b : Core) : Type 0 where
  pub within : place < length k.removals
  pub under_way : is_past (removal_at k place).stage ≡ false
  pub side_is : side ≡ next_side (removal_at k place).stage
  pub looks : Looks a b side (record { entries = entries; inside = inside })

-- A look at the depth of the removal at a place, which is past its grace periods.
pub record LooksAtDepth (place slot depth : ℕ) (k : KeeperView) (a b : Core) : Type 0 where
  pub within : place < length k.removals
  pub over : is_past (removal_at k place).stage ≡ true
  pub slot_is : slot ≡ (removal_at k place).slot
  pub looks : LooksDepth a b slot depth

-- the slot of the removal at a place
abbrev pub slot_at : KeeperView → ℕ → ℕ
slot_at k place = (removal_at k place).slot

-- the keeper without the removal at a place, whose slot has no controller any more, and with this room
abbrev pub without_removal : ℕ → ℕ → KeeperView → KeeperView
without_removal place room k =
    record (with_owner (slot_at k place) None k) { removals = remove k.removals place; spare = room }

-- The slot of the removal at a place is freed, and its removal is over.
pub record FreesRow (k l : KeeperView) (a b : Core) (by : Maker) (place : ℕ) (entry : RowEntry) : Type 0 where
  pub old : Row
  pub found : RowTold a (slot_at k place) old
  pub given : is_given old ≡ true
  pub row : entry ≡ entry_of (slot_at k place) old op.Free by
  pub keeper : l ≡ without_removal place l.spare k
  pub core : b ≡ stepped (row_kept entry) (row_in (slot_at k place) entry.row) (held (slot_at k place) old a)

-- the first depth that wasn't 0
abbrev pub first_of : Option Deep → ℕ → ℕ → Deep
first_of None slot depth = record { slot = slot; depth = depth }
first_of (Some deep) slot depth = deep

-- the answer of a walk that freed nothing and met nobody inside a side
abbrev pub ended_by : Option Deep → Reaped
ended_by None = Idle
ended_by (Some deep) = Again deep.slot (Depth deep.depth)

-- A walk over the removals from a place on, look by look, with the first depth so far that wasn't 0. A look at a side
-- that finds nobody inside is a closing, and the walk goes on; one that finds somebody ends it. A depth of 0 ends the
-- walk with the slot freed; another depth is remembered, if it is the first, and the walk goes on behind it. The end of
-- the removals ends the walk with what was remembered.
abbrev pub IsWalk : Maker → ℕ → Option Deep → List Look → KeeperView → KeeperView → Core → Core → Reaped → Type 0
IsWalk by place first [] k l a b answer =
    (length k.removals ≤ place) × (answer ≡ ended_by first) × (l ≡ k) × (b ≡ a)
IsWalk by place first (look.Side side entries zero ∷ looks) k l a b answer =
    (c : Core) × LooksAtSide place side entries 0 k a c
    × IsWalk by place first looks (closed_keeper by place entries k) l (closed_core by place k c) b answer
IsWalk by place first (look.Side side entries (suc n) ∷ looks) k l a b answer =
    LooksAtSide place side entries (suc n) k a b × (looks ≡ []) × (l ≡ k)
    × (answer ≡ Again (removal_at k place).slot (Section (next_grace (removal_at k place).stage) side (suc n)))
IsWalk by place first (look.Depth slot zero ∷ looks) k l a b answer =
    (c : Core) × (entry : RowEntry) × LooksAtDepth place slot 0 k a c × (looks ≡ []) × FreesRow k l c b by place entry
    × (answer ≡ Freed entry k.flips)
IsWalk by place first (look.Depth slot (suc n) ∷ looks) k l a b answer =
    (c : Core) × LooksAtDepth place slot (suc n) k a c
    × IsWalk by (place + 1) (Some (first_of first slot (suc n))) looks k l c b answer

-- all removals before a place are past their grace periods
abbrev pub past_before : ℕ → List Removal → Bool
past_before zero rs = true
past_before (suc place) [] = true
past_before (suc place) (r ∷ rs) = is_past r.stage && past_before place rs

-- The removal at a place is under way, and those before it are past their grace periods.
pub record AtPlace (k : KeeperView) (place : ℕ) : Type 0 where
  pub within : place < length k.removals
  pub before : past_before place k.removals ≡ true
  pub going : is_past (removal_at k place).stage ≡ false

-- how many looks at a side a removal has behind it
abbrev pub looks_done : Stage → ℕ
looks_done Marked = 0
looks_done HalfA = 1
looks_done Unlisted = 2
looks_done HalfB = 3
looks_done Past = 4

-- how many entries a removal has made
abbrev pub entries_done : Stage → ℕ
entries_done Marked = 0
entries_done HalfA = 1
entries_done Unlisted = 3
entries_done HalfB = 4
entries_done Past = 5

-- how many units a removal has used for its list of paths
abbrev pub units_done : Stage → ℕ
units_done Marked = 0
units_done HalfA = 0
units_done Unlisted = 1
units_done HalfB = 1
units_done Past = 1

-- the most looks that a walk makes from a place on
abbrev pub looks_left : KeeperView → ℕ → ℕ
looks_left k place = 5 * (length k.removals - place) - looks_done (removal_at k place).stage

-- A walk may go on from a place: those before it are past their grace periods, and room and units suffice.
pub record MayWalk (k : KeeperView) (v : View) (place : ℕ) : Type 0 where
  pub upto : place ≤ length k.removals
  pub before : past_before place k.removals ≡ true
  pub room : 5 * (length k.removals - place) + 1 ≤ k.spare + entries_done (removal_at k place).stage
  pub units : length k.removals - place + 1 ≤ v.left + units_done (removal_at k place).stage

-- What follows a look at a side that found so many inside: where nobody is, the closing and what is done behind it.
abbrev pub LookTo : ℕ → Maker → ℕ → ℕ → KeeperView → KeeperView → Core → Core → Type 0
LookTo zero by place entries k l c b = (l ≡ closed_keeper by place entries k) × (b ≡ closed_core by place k c)
LookTo (suc n) by place entries k l c b = (l ≡ k) × (b ≡ c)

-- A look at a side for the removal at a place, and what follows.
pub record LooksOnce (k l : KeeperView) (a b : Core) (by : Maker) (place inside : ℕ) : Type 0 where
  pub entries : ℕ
  pub mid : Core
  pub looks : LooksAtSide place (next_side (removal_at k place).stage) entries inside k a mid
  pub to : LookTo inside by place entries k l mid b
  pub stands : StandsTo l b.view

-- A walk from a place on, after which the keeper stands to its steps.
pub record Walks (k l : KeeperView) (a b : Core) (by : Maker) (place : ℕ) (first : Option Deep) (answer : Reaped) : Type 0 where
  pub looks : List Look
  pub walk : IsWalk by place first looks k l a b answer
  pub stands : StandsTo l b.view

-- What a walk keeps: the table, the lanes, the sections, notes and flights, and the start.
pub record Keeps (a b : Core) : Type 0 where
  pub home : b.home ≡ a.home
  pub lane : b.lane ≡ a.lane
  pub alone : b.alone ≡ a.alone
  pub others : b.others ≡ a.others
  pub role : b.view.role ≡ a.view.role
  pub inside : b.view.inside ≡ a.view.inside
  pub done : b.view.done ≡ a.view.done
  pub flights : b.view.flights ≡ a.view.flights
  pub start : b.view.keeping.start ≡ a.view.keeping.start
  pub out : b.view.keeping.out ≡ a.view.keeping.out

-- the row entries that an answer has
abbrev pub entries_of : Reaped → List RowEntry
entries_of Idle = []
entries_of (Freed entry flips) = entry ∷ []
entries_of (Again slot stop) = []

-- the oldest removal that isn't past its grace periods
abbrev pub next_removal : List Removal → Option Removal
next_removal rs = find (λ r. not (is_past r.stage)) rs

-- the slot of the oldest removal
abbrev pub oldest_slot : List Removal → Option ℕ
oldest_slot [] = None
oldest_slot (r ∷ rs) = Some r.slot

-- Where a walk stopped, by what the keeper is then: at the side of the grace period that is the next to be closed, or,
-- where all are closed, at the oldest removal. The number, which isn't 0, is that of a look of this walk.
abbrev pub StopsAt : List Removal → List Look → ℕ → Stop → Type 0
StopsAt rs looks slot (Section grace side inside) =
    (r : Removal) × (entries : ℕ) × (before : List Look) × (next_removal rs ≡ Some r) × (slot ≡ r.slot)
    × (grace ≡ next_grace r.stage) × (side ≡ next_side r.stage) × (inside ≢ 0)
    × (looks ≡ before ++ look.Side side entries inside ∷ [])
StopsAt rs looks slot (Depth depth) =
    (before after : List Look) × (next_removal rs ≡ None) × (oldest_slot rs ≡ Some slot) × (depth ≢ 0)
    × (looks ≡ before ++ look.Depth slot depth ∷ after)

-- What an answer says of the keeper and of the looks that the walk added.
abbrev pub AnswersBy : KeeperView → List Look → Reaped → Type 0
AnswersBy l looks Idle = l.removals ≡ []
AnswersBy l looks (Freed entry flips) = flips ≡ l.flips
AnswersBy l looks (Again slot stop) = StopsAt l.removals looks slot stop

-- The walk stopped before a slot was freed.
abbrev pub IsAgain : Reaped → Type 0
IsAgain Idle = ⊥
IsAgain (Freed entry flips) = ⊥
IsAgain (Again slot stop) = Unit {0}

-- What a reap does: it walks over the removals, the oldest first, and gains just the units, entries and looks of this
-- walk. It answers Idle exactly where no removal is under way, and where no lane is out and its own pass has no flight,
-- it doesn't answer Again.
pub record Reaps (k l : KeeperView) (a b : Core) (by : Maker) (answer : Reaped) : Type 0 where
  pub looks : List Look
  pub units : ℕ
  pub made : List KeepEntry
  pub walk : IsWalk by 0 None looks k l a b answer
  pub kept : Keeps a b
  pub gained : b.view.entries ≡ a.view.entries ++ entries_of answer
  pub used : b.view.left + units ≡ a.view.left
  pub within : units ≤ 16
  pub looked_so : b.view.keeping.looks ≡ a.view.keeping.looks ++ looks
  pub made_so : l.entries ≡ k.entries ++ made
  pub idle : (answer ≡ Idle) ↔ (k.removals ≡ [])
  pub answers : AnswersBy l looks answer
  pub alone : a.alone ≡ true → a.view.flights ≡ [] → IsAgain answer → ⊥
  pub stands : StandsTo l b.view
