-- The keeper as clauses see it, and how it stands to its steps.
use Rattle.std.specs.Prelude.{◌≡◌, ℕ, ◌+◌, ◌-◌, ◌%◌, ◌<◌, ◌≤◌, ◌==◌, ◌&&◌, ◌||◌, Bool, true, false, List, [], ◌∷◌, find, filter, map, reverse, length, min, nat_lt, Option, None, Some, is_some, is_none, slice_index_or, if◌then◌else◌}
use Rattle.std.specs.List.{list_all}
use Rattle.mp_words.specs.declared.row.Row.{Row}
use Rattle.mp_words.specs.declared.order.Order.{Order}
use Rattle.mp_words.specs.declared.entry.KeepEntry.{KeepEntry}
use Rattle.mp_words.specs.declared.entry.KeepEntry.TheVariants as keep
use Rattle.mp_words.specs.Row.{is_given}
use Rattle.mp_words.specs.Facts.{IsOrder}
use Rattle.mp_core.specs.declared.view.Event.{Event}
use Rattle.mp_core.specs.declared.view.Event.TheVariants.{Gives, Marks, Scans, Clears, Orders, Zeros, Frees}
use Rattle.mp_core.specs.declared.view.Role.TheVariants.{Keeper}
use Rattle.mp_core.specs.declared.view.Start.{Start}
use Rattle.mp_core.specs.declared.view.View.{View}
use Rattle.mp_core.specs.Memory.{row_at}
use Rattle.mp_core.specs.Unpacked.{start_order, unpacked}
use Rattle.mp_core.specs.Status.{Status, unused, listed, leaving, past, gone, lists}
use Rattle.mp_core.specs.Views.{last_order}
use Rattle.mp_core.specs.Kinds.{status_at}
use Rattle.mp_keep.specs.declared.removal.Removal.{Removal}
use Rattle.mp_keep.specs.declared.stage.Stage.{Stage}
use Rattle.mp_keep.specs.declared.stage.Stage.TheVariants.{Marked, HalfA, Unlisted, HalfB, Past}

-- The list of paths; the controller of each slot not yet freed; the removals under way, the oldest first; the flips so
-- far; the lists of paths stored and the scans kept, in the order in which they were made; and the room for more.
pub record KeeperView : Type 0 where
  pub order : Order
  pub owners : List (Option ℕ)
  pub removals : List Removal
  pub flips : ℕ
  pub entries : List KeepEntry
  pub spare : ℕ

-- how many entries a keeper has room for, at most 2^31 in all, or 0 where it has none for a removal
abbrev pub room_of : ℕ → ℕ → ℕ → ℕ → ℕ
room_of entries most removals most_removals =
    if nat_lt removals most_removals then min most 2147483648 - entries else 0

-- the controller of a slot by this list, if the slot isn't free
abbrev pub owner_in : List (Option ℕ) → ℕ → Option ℕ
owner_in owners slot = slice_index_or owners slot None

-- the controller of a slot, if it isn't free
abbrev pub owner_at : KeeperView → ℕ → Option ℕ
owner_at k slot = owner_in k.owners slot

-- the removal of a slot, if it is under removal
abbrev pub removal_of : List Removal → ℕ → Option Removal
removal_of removals slot = find (λ r. r.slot == slot) removals

-- the slot is under removal, or listed
abbrev pub is_held : KeeperView → ℕ → Bool
is_held k slot = is_some (removal_of k.removals slot) || lists slot k.order

-- no two of these removals have the same slot
abbrev pub slots_differ : List Removal → Bool
slots_differ [] = true
slots_differ (r ∷ rs) = is_none (removal_of rs r.slot) && slots_differ rs

-- a removal that stands in no list
abbrev pub no_removal : Removal
no_removal = record { slot = 0; mark = 0; stage = Marked }

-- the removal at a place
abbrev pub removal_at : KeeperView → ℕ → Removal
removal_at k place = slice_index_or k.removals place no_removal

-- a slot that is removed so far is still listed
abbrev pub is_listed : Stage → Bool
is_listed Marked = true
is_listed HalfA = true
is_listed Unlisted = false
is_listed HalfB = false
is_listed Past = false

-- both grace periods are over
abbrev pub is_past : Stage → Bool
is_past Marked = false
is_past HalfA = false
is_past Unlisted = false
is_past HalfB = false
is_past Past = true

-- The keeper's sequence says of a slot at least what its removal has reached. It may say more, since a scan counts for
-- each slot under removal, and a removal counts those of its own grace periods alone.
abbrev pub has_reached : Stage → Status → Bool
has_reached Marked (leaving a b) = true
has_reached Marked (past ns) = true
has_reached HalfA (leaving a b) = b
has_reached HalfA (past ns) = true
has_reached Unlisted (gone a b) = true
has_reached HalfB (gone a b) = a
has_reached Past (gone a b) = a && b
has_reached stage st = false

-- Where a slot is: under removal, with what its removal has reached; or listed, or unused.
abbrev pub StatusBy : Option Removal → Bool → Status → Type 0
StatusBy None true st = st ≡ listed
StatusBy None false st = st ≡ unused
StatusBy (Some r) b st = (has_reached r.stage st ≡ true) × (b ≡ is_listed r.stage)

-- the path is marked, and no grace period has begun
abbrev pub is_marked : Stage → Bool
is_marked Marked = true
is_marked HalfA = false
is_marked Unlisted = false
is_marked HalfB = false
is_marked Past = false

-- none of these removals has begun its first grace period
abbrev pub all_marked : List Removal → Bool
all_marked rs = list_all (λ r. is_marked r.stage) rs

-- the removals went through their grace periods one after the other, the oldest first
abbrev pub one_by_one : List Removal → Bool
one_by_one [] = true
one_by_one (r ∷ rs) = if is_past r.stage then one_by_one rs else all_marked rs

-- the side index that a removal's stage leaves, behind this one of the removals after it
abbrev pub index_by : Stage → ℕ → ℕ
index_by Marked n = 0
index_by HalfA n = 1
index_by Unlisted n = 1
index_by HalfB n = 0
index_by Past n = n

-- the side index that the removals leave: 1 in the midst of a grace period A, between the two, and else 0
abbrev pub index_of : List Removal → ℕ
index_of [] = 0
index_of (r ∷ rs) = index_by r.stage (index_of rs)

-- the event of the keeper's sequence that an entry is of
abbrev pub event_of : KeepEntry → Event
event_of (keep.Order e) = Orders e
event_of (keep.Closing c) = Scans c.side c.entries c.order

-- an event of the keeper's sequence has an entry: a list of paths that was stored, or a scan that was kept
abbrev pub has_entry : Event → Bool
has_entry (Orders e) = true
has_entry (Scans side entries order) = true
has_entry (Gives slot version) = false
has_entry (Marks slot version) = false
has_entry (Clears node slot) = false
has_entry (Zeros slot) = false
has_entry (Frees slot version) = false

-- The keeper's own data fit together: the list may be stored; a slot has a controller exactly where it is listed or
-- under removal, and no two have the same; no two removals have the same slot; the removals went through their grace
-- periods one by one; and its numbers are below those that a u32 has.
pub record IsSound (k : KeeperView) : Type 0 where
  pub lawful : IsOrder k.order
  pub sized : length k.owners ≡ 15
  pub owned : (slot : ℕ) → slot < 15 → is_some (owner_at k slot) ≡ is_held k slot
  pub apart : (i j ctrl : ℕ) → owner_at k i ≡ Some ctrl → owner_at k j ≡ Some ctrl → i ≡ j
  pub within : list_all (λ r. nat_lt r.slot 15) k.removals ≡ true
  pub distinct : slots_differ k.removals ≡ true
  pub ordered : one_by_one k.removals ≡ true
  pub turned : k.flips % 2 ≡ index_of k.removals
  pub versions : k.order.version ≤ 1073741823 + length k.entries
  pub flipped : k.flips ≤ length k.entries

-- The keeper stands to the steps whose view this is: they are the keeper's, its list of paths is the last of the
-- sequence, each slot is where its own data say, the flips are the view's, the side index is the one that these flips
-- leave, and its entries are those of the sequence, in order.
pub record StandsTo (k : KeeperView) (v : View) : Type 0 where
  pub sound : IsSound k
  pub keeper : v.role ≡ Keeper
  pub order : k.order ≡ last_order (start_order v.keeping.start) v.keeping.events
  pub slots : (slot : ℕ) → slot < 15 → StatusBy (removal_of k.removals slot) (lists slot k.order) (status_at slot v)
  pub flips : k.flips ≡ v.keeping.flips
  pub index : v.keeping.index ≡ k.flips % 2
  pub entries : filter has_entry v.keeping.events ≡ reverse (map event_of k.entries)

-- What a keeper stands to is the same in both views.
pub record SameKeeping (v w : View) : Type 0 where
  pub role : w.role ≡ v.role
  pub start : w.keeping.start ≡ v.keeping.start
  pub events : w.keeping.events ≡ v.keeping.events
  pub flips : w.keeping.flips ≡ v.keeping.flips
  pub index : w.keeping.index ≡ v.keeping.index

-- the controller of a row, if its slot isn't free
abbrev pub owner_of : Row → Option ℕ
owner_of row = if is_given row then Some row.ctrl else None

-- The start of the steps has these words' list of paths, which may be stored and lists slots that have a path; each
-- slot has the controller that its row says; those that have one are listed, none is marked, and no two have the same.
pub record BeganWith (order : Order) (owners : List (Option ℕ)) (s : Start) : Type 0 where
  pub order_is : order ≡ start_order s
  pub lawful : IsOrder order
  pub version : order.version < 1073741824
  pub sized : length owners ≡ 15
  pub owned : (slot : ℕ) → slot < 15 → owner_in owners slot ≡ owner_of (row_at (unpacked s.words) slot)
  pub listed_are : (slot : ℕ) → slot < 15 → is_given (row_at (unpacked s.words) slot) ≡ lists slot order
  pub unmarked : (slot : ℕ) → slot < 15 → (row_at (unpacked s.words) slot).marked ≡ false
  pub apart : (i j ctrl : ℕ) → owner_in owners i ≡ Some ctrl → owner_in owners j ≡ Some ctrl → i ≡ j

-- A keeper that has made nothing yet, with this list of paths and these controllers.
pub record IsNew (order : Order) (owners : List (Option ℕ)) (k : KeeperView) : Type 0 where
  pub order_is : k.order ≡ order
  pub owners_are : k.owners ≡ owners
  pub removals : k.removals ≡ []
  pub flips : k.flips ≡ 0
  pub entries : k.entries ≡ []

-- The keeper's steps, that began with this list of paths and these controllers at side index 0, and of which none is
-- made yet.
pub record AtStart (order : Order) (owners : List (Option ℕ)) (v : View) : Type 0 where
  pub keeper : v.role ≡ Keeper
  pub start : BeganWith order owners v.keeping.start
  pub index : v.keeping.index ≡ 0
  pub flips : v.keeping.flips ≡ 0
  pub events : v.keeping.events ≡ []
