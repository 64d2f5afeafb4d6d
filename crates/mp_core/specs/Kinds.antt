-- What each kind of step does, over what the pass knows before and after, with the words where they are told.
use Rattle.std.specs.Prelude.{◌≡◌, ℕ, ◌+◌, ◌<◌, ◌≤◌, true, Option, None, Some}
use Rattle.mp_words.specs.declared.row.Row.{Row}
use Rattle.mp_words.specs.declared.op.Op.{Op}
use Rattle.mp_words.specs.declared.op.Op.TheVariants as op
use Rattle.mp_words.specs.declared.op.Maker.{Maker}
use Rattle.mp_words.specs.declared.op.Effect.TheVariants as effect
use Rattle.mp_words.specs.declared.order.Order.{Order}
use Rattle.mp_words.specs.declared.note.Note.{Note}
use Rattle.mp_words.specs.declared.flight.Flight.{Flight}
use Rattle.mp_words.specs.declared.entry.RowEntry.{RowEntry}
use Rattle.mp_words.specs.declared.entry.OrderEntry.{OrderEntry}
use Rattle.mp_words.specs.declared.words.Side.{Side}
use Rattle.mp_words.specs.Row.{is_given}
use Rattle.mp_words.specs.Effect.{effect_of, row_after}
use Rattle.mp_words.specs.Facts.{IsRow, IsOrder}
use Rattle.mp_core.specs.declared.view.Section.{Section}
use Rattle.mp_core.specs.declared.view.RowEnd.{RowEnd}
use Rattle.mp_core.specs.declared.view.RowEnd.TheVariants as ends
use Rattle.mp_core.specs.declared.view.View.{View}
use Rattle.mp_core.specs.Memory.{side_at, row_at, depth_at, current_at, entered_in, left_in, flipped_in, row_in, order_in, sent_in, landed_in, current_in, cleared_in}
use Rattle.mp_core.specs.Notes.{order_noted, row_noted, flight_noted, depth_noted, current_noted, row_of, with_note}
use Rattle.mp_core.specs.Core.{Core, stepped, looked, Tells}
use Rattle.mp_core.specs.Status.{Status, unused, listed, bare, is_used, status, lists, MayOrder}
use Rattle.mp_core.specs.Unpacked.{first_status}
use Rattle.mp_core.specs.Views as view
use Rattle.mp_core.specs.Views.{opened, seen_row, flying, last_version}

-- The words aren't told, and no lane is out.
abbrev pub IsAlone : Core → Type 0
IsAlone c = (c.told ≡ None) × (c.alone ≡ true)

-- What each load of the list of paths tells: it is lawful, its version is below 2^30 and not below the one seen (that
-- one where no lane is out), and where the words are told it is theirs.
pub record OrderTold (a : Core) (order : Order) : Type 0 where
  pub lawful : IsOrder order
  pub below : order.version < 1073741824
  pub fresh : a.view.seen.order ≤ order.version
  pub last : IsAlone a → order.version ≡ a.view.seen.order
  pub told : Tells a (λ m. order ≡ m.order)

-- What each load of a row tells, whether it is free aside: it is lawful, its version is below 2^30 and not below the
-- one seen (that one where no lane is out), and where the words are told it is theirs.
pub record RowTold (a : Core) (slot : ℕ) (row : Row) : Type 0 where
  pub lawful : IsRow row
  pub below : row.version < 1073741824
  pub fresh : seen_row a.view slot ≤ row.version
  pub last : IsAlone a → row.version ≡ seen_row a.view slot
  pub told : Tells a (λ m. row ≡ row_at m slot)

-- A load of the side index.
pub record LoadsSide (a b : Core) (side : ℕ) : Type 0 where
  pub range : side < 2
  pub after : b ≡ looked view.passed a
  pub told : Tells a (λ m. side ≡ m.index)

-- An entry of a side: a fetch-and-add, whose old number of entries is the ticket.
pub record Enters (a b : Core) (side : ℕ) (s : Section) : Type 0 where
  pub section : s ≡ opened a.lane side s.note.ticket
  pub after : b ≡ stepped (view.entered s) (entered_in side) a
  pub told : Tells a (λ m. s.note.ticket ≡ (side_at m side).entries)

-- The end of a section: a fetch-and-subtract on its side.
pub record Leaves (a b : Core) (s : Section) : Type 0 where
  pub after : b ≡ stepped (view.finished s) (left_in s.note.side) a

-- A look of the keeper at a side. Where no lane is out and its own pass has no open section, nobody is inside.
pub record Looks (a b : Core) (side : ℕ) (found : Side) : Type 0 where
  pub after : b ≡ looked (view.scanned side found.entries found.inside (last_version a.view)) a
  pub alone : a.alone ≡ true → a.view.inside ≡ None → found.inside ≡ 0
  pub told : Tells a (λ m. found ≡ side_at m side)

-- A store of the other side in the index.
pub record Flips (a b : Core) : Type 0 where
  pub after : b ≡ stepped view.flipped flipped_in a

-- A load of the list of paths in a section.
pub record LoadsOrder (a b : Core) (s t : Section) (order : Order) : Type 0 where
  pub section : t ≡ with_note (order_noted order s.note) s
  pub after : b ≡ looked (view.order_read order t) a
  pub found : OrderTold a order

-- A slot of a section that has read no list of paths is reached by a flight of this pass alone.
abbrev pub MayReach : Note → ℕ → View → Type 0
MayReach n slot v = n.order ≡ None → 1 ≤ flying slot v

-- A load of the row of a slot that the section's list has. The slot has a path.
pub record LoadsRow (a b : Core) (s t : Section) (slot : ℕ) (row : Row) : Type 0 where
  pub section : t ≡ with_note (row_noted slot row s.note) s
  pub after : b ≡ looked (view.row_read slot row t) a
  pub found : RowTold a slot row
  pub given : is_given row ≡ true

-- A load of the row of a flight's slot. The slot has a path.
pub record LoadsFlight (a b : Core) (s t : Section) (slot : ℕ) (row : Row) : Type 0 where
  pub section : t ≡ with_note (flight_noted slot row s.note) s
  pub after : b ≡ looked (view.row_read slot row t) a
  pub found : RowTold a slot row
  pub given : is_given row ≡ true

-- An ANA state that is stated is from 1 to 15.
abbrev pub IsStated : Option ℕ → Type 0
IsStated None = Unit {0}
IsStated (Some state) = (1 ≤ state) × (state ≤ 15)

-- An operation that a section may make: a log page, with a stated ANA state from 1 to 15, a controller's change, the
-- end of the transition timeout, or pending.
abbrev pub IsLaneOp : Op → Type 0
IsLaneOp (op.Log stated changing) = IsStated stated
IsLaneOp (op.Ctrl cstate) = Unit {0}
IsLaneOp op.Expire = Unit {0}
IsLaneOp op.Pending = Unit {0}
IsLaneOp (op.Give gift) = ⊥
IsLaneOp op.Mark = ⊥
IsLaneOp op.Free = ⊥

-- The operation changes the row.
abbrev pub Changes : Row → Op → Type 0
Changes row op = effect_of row op ≡ effect.Changed (row_after row op)

-- the entry that an operation makes of the row of a slot
abbrev pub entry_of : ℕ → Row → Op → Maker → RowEntry
entry_of slot old op by = record { slot = slot; row = row_after old op; op = op; by = by }

-- The change was made, by one compare-and-exchange from the old row.
pub record RowDone (a b : Core) (s t : Section) (slot : ℕ) (old : Row) (e : RowEntry) : Type 0 where
  pub after : b ≡ stepped (view.row_changed e t) (row_in slot e.row) a
  pub told : Tells a (λ m. row_at m slot ≡ old)

-- Another row stood there, of a greater version. Where no lane is out the old row wasn't the greatest seen.
pub record RowMoved (a : Core) (slot : ℕ) (old row : Row) : Type 0 where
  pub greater : old.version < row.version
  pub lawful : IsRow row
  pub below : row.version < 1073741824
  pub given : is_given row ≡ true
  pub out : IsAlone a → old.version ≡ seen_row a.view slot → ⊥
  pub told : Tells a (λ m. row_at m slot ≡ row)

-- How a change of a section ends: with its entry, or with the row found.
abbrev pub ChangesTo : Core → Core → Section → Section → ℕ → Row → Op → Maker → RowEnd → Type 0
ChangesTo a b s t slot old op by (ends.Done e) = (e ≡ entry_of slot old op by) × RowDone a b s t slot old e
ChangesTo a b s t slot old op by (ends.Moved row) = (b ≡ looked (view.row_moved slot row t) a) × RowMoved a slot old row

-- A compare-and-exchange of a row in a section, at most one for each section.
pub record ChangesRow (a b : Core) (s t : Section) (slot : ℕ) (old : Row) (op : Op) (by : Maker) (end : RowEnd) : Type 0 where
  pub section : t ≡ record s { tried = true }
  pub ends : ChangesTo a b s t slot old op by end

-- A load of a depth in a section: at least the number of this pass's own flights on the slot.
pub record LoadsDepth (a b : Core) (s t : Section) (slot depth : ℕ) : Type 0 where
  pub section : t ≡ with_note (depth_noted slot depth s.note) s
  pub after : b ≡ looked (view.noted t) a
  pub own : flying slot a.view ≤ depth
  pub told : Tells a (λ m. depth ≡ depth_at m slot)

-- the flight of a request that a section sends to a slot, with the version of the usable row that it loaded
abbrev pub flight_of : ℕ → Section → ℕ → ℕ → Flight
flight_of lane s slot req = record { slot = slot; version = (row_of slot s.note).version; req = req; lane = lane }

-- A fetch-and-add on a depth, by which a request is sent, at most one for each section.
pub record Sends (a b : Core) (s t : Section) (slot req : ℕ) (f : Flight) : Type 0 where
  pub flight : f ≡ flight_of a.lane s slot req
  pub section : t ≡ record s { sent = true }
  pub after : b ≡ stepped (view.flown f t) (sent_in slot) a

-- A fetch-and-subtract on a depth, by which a flight ends.
pub record Lands (a b : Core) (f : Flight) : Type 0 where
  pub after : b ≡ stepped (view.landed f) (landed_in f.slot) a

-- A load of a node's current word in a section.
pub record LoadsCurrent (a b : Core) (s t : Section) (node : ℕ) (current : Option ℕ) : Type 0 where
  pub section : t ≡ with_note (current_noted current s.note) s
  pub after : b ≡ looked (view.noted t) a
  pub told : Tells a (λ m. current ≡ current_at m node)

-- A store of a node's current word in a section.
pub record StoresCurrent (a b : Core) (s t : Section) (node : ℕ) (current : Option ℕ) : Type 0 where
  pub section : t ≡ s
  pub after : b ≡ stepped (view.noted t) (current_in node current) a

-- A compare-and-exchange of a node's current word from the slot to none.
pub record ClearsCurrent (a b : Core) (node slot : ℕ) : Type 0 where
  pub after : b ≡ stepped (view.cleared node slot) (cleared_in node slot) a

-- the keeper's steps

-- where a slot is, by the keeper's sequence in this view
abbrev pub status_at : ℕ → View → Status
status_at slot v = status (first_status v.keeping.start slot) slot v.keeping.events

-- A load of any row by the keeper. The slot has a path exactly where the sequence says that it is used.
pub record LoadsHeld (a b : Core) (slot : ℕ) (row : Row) : Type 0 where
  pub after : b ≡ looked (view.row_held slot row) a
  pub found : RowTold a slot row
  pub used : is_given row ≡ is_used (status_at slot a.view)

-- Where the keeper may do what to a slot: give a path to an unused one, with an ANA state from 1 to 15, mark a listed
-- one, and free a bare one.
abbrev pub MayKeep : Op → Status → Type 0
MayKeep (op.Give gift) st = (st ≡ unused) × (1 ≤ gift.state) × (gift.state ≤ 15)
MayKeep op.Mark st = st ≡ listed
MayKeep op.Free st = st ≡ bare
MayKeep (op.Log stated changing) st = ⊥
MayKeep (op.Ctrl cstate) st = ⊥
MayKeep op.Expire st = ⊥
MayKeep op.Pending st = ⊥

-- How the keeper's change of a row ends. Only a mark may meet another row.
abbrev pub KeepsTo : Core → Core → ℕ → Row → Op → Maker → RowEnd → Type 0
KeepsTo a b slot old done by (ends.Done e) =
    (e ≡ entry_of slot old done by) × (b ≡ stepped (view.row_kept e) (row_in slot e.row) a) × Tells a (λ m. row_at m slot ≡ old)
KeepsTo a b slot old done by (ends.Moved row) =
    (done ≡ op.Mark) × (b ≡ looked (view.keep_moved slot row) a) × RowMoved a slot old row

-- A compare-and-exchange of a row by the keeper.
pub record KeepsRow (a b : Core) (slot : ℕ) (old : Row) (op : Op) (by : Maker) (end : RowEnd) : Type 0 where
  pub ends : KeepsTo a b slot old op by end

-- A store of the next list of paths.
pub record StoresOrder (a b : Core) (e : OrderEntry) : Type 0 where
  pub after : b ≡ stepped (view.order_stored e) (order_in e.order) a

-- The next list of paths: it is lawful, its version is one higher, and it does with each slot what it may.
pub record IsNext (v : View) (order : Order) : Type 0 where
  pub lawful : IsOrder order
  pub version : order.version ≡ last_version v + 1
  pub slots : (slot : ℕ) → slot < 15 → MayOrder (lists slot order) (status_at slot v)

-- A look of the keeper at a depth: at least the number of its own flights on the slot, and just that where no lane is
-- out and its pass has no open section.
pub record LooksDepth (a b : Core) (slot depth : ℕ) : Type 0 where
  pub after : b ≡ looked (view.depth_looked slot depth) a
  pub own : flying slot a.view ≤ depth
  pub alone : a.alone ≡ true → a.view.inside ≡ None → depth ≡ flying slot a.view
  pub told : Tells a (λ m. depth ≡ depth_at m slot)

-- A store of none in a node's current word.
pub record EmptiesCurrent (a b : Core) (node : ℕ) : Type 0 where
  pub after : b ≡ stepped view.passed (current_in node None) a
