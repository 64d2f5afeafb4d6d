-- What holds of the words and all views, between any two steps, slot by slot and side by side.
use Rattle.std.specs.Prelude.{◌≡◌, ◌⊎◌, ℕ, ◌+◌, ◌<◌, ◌≤◌, ◌==◌, Bool, true, false, List, [], ◌∷◌, length, Option, None, Some, slice_index_or}
use Rattle.std.specs.List.{All}
use mathlib.Core.Option.{some}
use lib.ListN.{get_elem?}
use Rattle.mp_words.specs.declared.row.Row.{Row}
use Rattle.mp_words.specs.declared.order.Order.{Order}
use Rattle.mp_words.specs.declared.note.Note.{Note}
use Rattle.mp_words.specs.declared.flight.Flight.{Flight}
use Rattle.mp_words.specs.declared.entry.RowEntry.{RowEntry}
use Rattle.mp_words.specs.Order.{slots_of}
use Rattle.mp_words.specs.Places.{slots_in}
use Rattle.mp_words.specs.Row.{is_given, is_enabled}
use Rattle.mp_core.specs.declared.view.Section.{Section}
use Rattle.mp_core.specs.declared.view.Role.TheVariants as role
use Rattle.mp_core.specs.declared.view.Event.{Event}
use Rattle.mp_core.specs.declared.view.Held.{Held}
use Rattle.mp_core.specs.declared.view.Start.{Start}
use Rattle.mp_core.specs.declared.view.View.{View}
use Rattle.mp_core.specs.Memory.{Memory, side_at, row_at, depth_at, current_at}
use Rattle.mp_core.specs.Notes.{HasRow}
use Rattle.mp_core.specs.Unpacked.{start_order, first_status}
use Rattle.mp_core.specs.Status.{Status, lists, status, is_used}
use Rattle.mp_core.specs.Views.{flying, last_order}
use Rattle.mp_rule.specs.Sequence.{is_listed, is_going, is_quiet, is_barred, is_hidden, is_unnamed, marks, orders, scans, mark_floor, order_floor, span, given}

-- The words of the table as functions of their number.
pub record Cells : Type 0 where
  pub entries : ℕ → ℕ
  pub inside : ℕ → ℕ
  pub order : Order
  pub rows : ℕ → Row
  pub depths : ℕ → ℕ
  pub currents : ℕ → Option ℕ

-- the words as functions of their number
abbrev pub cells_of : Memory → Cells
cells_of m = record {
  entries = λ x. (side_at m x).entries;
  inside = λ x. (side_at m x).inside;
  order = m.order;
  rows = row_at m;
  depths = depth_at m;
  currents = current_at m;
}

-- the sum of a number over all views
abbrev pub total : (View → ℕ) → List View → ℕ
total f [] = 0
total f (v ∷ vs) = f v + total f vs

-- A fact of each view, with its place.
abbrev pub Each : (ℕ → View → Type 0) → List View → Type 0
Each P views = (i : ℕ) (v : View) → get_elem? views i ≡ some v → P i v

-- the keeper's sequence: that of the first view
abbrev pub keeping : List View → List Event
keeping [] = []
keeping (v ∷ views) = v.keeping.events

-- one where it holds, and else 0
abbrev pub tick : Bool → ℕ
tick true = 1
tick false = 0

-- one where there is an open section on this side
abbrev pub on_side : ℕ → Option Section → ℕ
on_side side None = 0
on_side side (Some t) = tick (t.note.side == side)

-- one where the view has an open section on this side
abbrev pub sits : ℕ → View → ℕ
sits side v = on_side side v.inside

-- the list of paths that a note has read, if it has read one, has the slot
abbrev pub in_order : ℕ → Option Order → Bool
in_order s None = false
in_order s (Some o) = lists s o

-- A section of this view can reach the slot: its list of paths has it, or a flight of the view is on it.
abbrev pub Reaches : ℕ → Note → View → Type 0
Reaches s n v = (in_order s n.order ≡ true) ⊎ (1 ≤ flying s v)

-- A fact of the note of the view's open section.
abbrev pub Opened : (Note → Type 0) → View → Type 0
Opened P v = (t : Section) → v.inside ≡ Some t → P t.note

-- A fact of each note of a view, open or finished.
abbrev pub Noted : (Note → Type 0) → View → Type 0
Noted P v = Opened P v × All P v.done

-- A fact of each row of the slot that the note has.
abbrev pub Reads : (Row → Type 0) → ℕ → Note → Type 0
Reads P s n = (row : Row) → HasRow n s row → P row

-- How the note of an open section stands: its side, the lengths of its lists, nothing loaded past its slots, and
-- where it read a list of paths, its slots are that list's.
pub record IsFormed (n : Note) : Type 0 where
  pub side : n.side < 2
  pub within : n.reading.len ≤ 8
  pub slots : length (slots_in n.reading) ≡ n.reading.len
  pub rows : length n.reading.rows ≡ 8
  pub read : length n.read ≡ 8
  pub rest : (p : ℕ) → n.reading.len ≤ p → slice_index_or n.read p false ≡ false
  pub order : (o : Order) → n.order ≡ Some o → slots_in n.reading ≡ slots_of o

-- How the view's open section stands.
abbrev pub Formed : ℕ → View → Type 0
Formed i v = Opened IsFormed v

-- The note's ticket is below the side's entries.
abbrev pub TicketBelow : ℕ → ℕ → Note → Type 0
TicketBelow side entries n = n.side ≡ side → n.ticket < entries

-- The tickets of all notes of the view on this side are below the side's entries.
abbrev pub TicketsBelow : ℕ → ℕ → ℕ → View → Type 0
TicketsBelow side entries i v = Noted (TicketBelow side entries) v

-- The note's ticket is past each kept scan of the side.
abbrev pub TicketPast : ℕ → List Event → Note → Type 0
TicketPast side es n = n.side ≡ side → scans side es ≤ n.ticket

-- The ticket of the view's open section on this side is past each kept scan of the side.
abbrev pub TicketsPast : ℕ → List Event → ℕ → View → Type 0
TicketsPast side es i v = Opened (TicketPast side es) v

-- What holds of one side: it has so many sections inside as are open on it, tickets are below its entries, and no
-- open section has a ticket below a kept scan.
pub record SideAt (side entries inside : ℕ) (es : List Event) (views : List View) : Type 0 where
  pub counted : inside ≡ total (sits side) views
  pub below : Each (TicketsBelow side entries) views
  pub scanned : scans side es ≤ entries
  pub over : Each (TicketsPast side es) views

-- The note has no enabled row of a slot whose status bars its side.
abbrev pub Bars : ℕ → Status → Note → Type 0
Bars s st n = is_barred n.side st ≡ true → Reads (λ row. is_enabled row ≡ false) s n

-- The view's open section has no enabled row of a slot whose status bars its side.
abbrev pub Barred : ℕ → Status → ℕ → View → Type 0
Barred s st i v = Opened (Bars s st) v

-- The note's list of paths doesn't have a slot whose status hides it from its side.
abbrev pub Hides : ℕ → Status → Note → Type 0
Hides s st n = is_hidden n.side st ≡ true → in_order s n.order ≡ false

-- The list of paths of the view's open section doesn't have a slot whose status hides it.
abbrev pub Hidden : ℕ → Status → ℕ → View → Type 0
Hidden s st i v = Opened (Hides s st) v

-- No current word names a slot whose status says that it doesn't.
abbrev pub Unnamed : ℕ → Status → (ℕ → Option ℕ) → Type 0
Unnamed s st currents = (n : ℕ) → n < 8 → is_unnamed n st ≡ true → currents n ≡ Some s → ⊥

-- The row that the keeper holds of a quiet slot is still its word.
abbrev pub Still : ℕ → Status → Row → ℕ → View → Type 0
Still s st row i v = (l : Held) → v.keeping.last ≡ Some l → l.slot ≡ s → is_quiet st ≡ true → l.row ≡ row

-- What holds of one slot with this status: whether its row is free, marked and ready, whether it is listed, its
-- flights, what open sections have of it, which current words name it, and what the keeper holds of it.
pub record SlotAt (s : ℕ) (st : Status) (row : Row) (order : Order) (depth : ℕ) (currents : ℕ → Option ℕ) (views : List View) : Type 0 where
  pub taken : is_given row ≡ is_used st
  pub marked : row.marked ≡ is_going st
  pub off : is_going st ≡ true → row.ready ≡ false
  pub listed : lists s order ≡ is_listed st
  pub counted : depth ≡ total (flying s) views
  pub idle : is_quiet st ≡ true → depth ≡ 0
  pub barred : Each (Barred s st) views
  pub hidden : Each (Hidden s st) views
  pub unnamed : Unnamed s st currents
  pub still : Each (Still s st row) views

-- Each row of the slot that the note has read is at least as new as a mark whose grace period its ticket is past.
abbrev pub ReadsAbove : ℕ → List Event → Note → Type 0
ReadsAbove s es n = Reads (λ row. mark_floor s n.side n.ticket es ≤ row.version) s n

-- That of each note of the view.
abbrev pub AllReadsAbove : ℕ → List Event → ℕ → View → Type 0
AllReadsAbove s es i v = Noted (ReadsAbove s es) v

-- What holds of the marks of one slot: they are at most the word's version, and each note past a grace period after
-- one has read no older row.
pub record MarksAt (s version : ℕ) (es : List Event) (views : List View) : Type 0 where
  pub known : marks s es ≤ version
  pub read : Each (AllReadsAbove s es) views

-- The list of paths that the note has read is at least as new as one whose grace period its ticket is past.
abbrev pub OrderAbove : List Event → Note → Type 0
OrderAbove es n = (o : Order) → n.order ≡ Some o → order_floor n.side n.ticket es ≤ o.version

-- That of each note of the view.
abbrev pub OrdersAbove : List Event → ℕ → View → Type 0
OrdersAbove es i v = Noted (OrderAbove es) v

-- What holds of the lists of paths that were stored: they are at most the word's version, and each note past a grace
-- period after one has read no older list.
pub record OrdersAt (version : ℕ) (es : List Event) (views : List View) : Type 0 where
  pub known : orders es ≤ version
  pub read : Each (OrdersAbove es) views

-- The row isn't newer than the word, and is not ready where its version lies from a mark to its free.
abbrev pub RowSpan : Bool → ℕ → ℕ → List Event → Row → Type 0
RowSpan g s version es row = (row.version ≤ version) × (span g s row.version es ≡ true → row.ready ≡ false)

-- That of each row of the slot that the note has read.
abbrev pub ReadsSpan : Bool → ℕ → ℕ → List Event → Note → Type 0
ReadsSpan g s version es n = Reads (RowSpan g s version es) s n

-- That of each note of the view.
abbrev pub AllReadsSpan : Bool → ℕ → ℕ → List Event → ℕ → View → Type 0
AllReadsSpan g s version es i v = Noted (ReadsSpan g s version es) v

-- The row of an entry of the slot isn't newer than the word, and is marked and not ready where its version lies from
-- a mark to its free.
abbrev pub EntrySpan : Bool → ℕ → ℕ → List Event → RowEntry → Type 0
EntrySpan g s version es e = e.slot ≡ s → (e.row.version ≤ version) × (span g s e.row.version es ≡ true → (e.row.marked ≡ true) × (e.row.ready ≡ false))

-- That of each entry of the view.
abbrev pub AllEntriesSpan : Bool → ℕ → ℕ → List Event → ℕ → View → Type 0
AllEntriesSpan g s version es i v = All (EntrySpan g s version es) v.entries

-- What holds of one slot between a mark and its free: each row that was read or written there is off, and the slot is
-- under removal exactly where the present version lies there.
pub record SpanAt (g : Bool) (s version : ℕ) (removing : Bool) (es : List Event) (views : List View) : Type 0 where
  pub now : (n : ℕ) → version ≤ n → span g s n es ≡ removing
  pub read : Each (AllReadsSpan g s version es) views
  pub written : Each (AllEntriesSpan g s version es) views

-- An enabled row of the slot that the note has read is of its present path.
abbrev pub ReadsLife : ℕ → ℕ → Note → Type 0
ReadsLife s first n = Reads (λ row. is_enabled row ≡ true → first ≤ row.version) s n

-- That of the view's open section.
abbrev pub AllReadsLife : ℕ → ℕ → ℕ → View → Type 0
AllReadsLife s first i v = Opened (ReadsLife s first) v

-- A flight on the slot was sent by a row of its present path.
abbrev pub FlightLife : ℕ → ℕ → Flight → Type 0
FlightLife s first f = f.slot ≡ s → first ≤ f.version

-- That of each flight of the view.
abbrev pub FlightsLife : ℕ → ℕ → ℕ → View → Type 0
FlightsLife s first i v = All (FlightLife s first) v.flights

-- What holds of the present path of one slot: it is at most the word's version, and what is enabled in open sections
-- and each flight is of it.
pub record LifeAt (s first version : ℕ) (views : List View) : Type 0 where
  pub known : first ≤ version
  pub read : Each (AllReadsLife s first) views
  pub flown : Each (FlightsLife s first) views

-- Only the first view is the keeper's.
abbrev pub IsKeeper : ℕ → View → Type 0
IsKeeper i v = v.role ≡ role.Keeper → i ≡ 0

-- Only the first view holds a row of the keeper's last step.
abbrev pub HasLast : ℕ → View → Type 0
HasLast i v = (l : Held) → v.keeping.last ≡ Some l → i ≡ 0

-- Where each slot is at the start, and the list of paths there.
pub record First : Type 0 where
  pub status : ℕ → Status
  pub order : Order

-- where each slot is at the start, and the list of paths there, by the words of the start
abbrev pub first_of : Start → First
first_of s = record { status = first_status s; order = start_order s }

-- What ties the keeper's sequence to the words and to all views: its last list of paths, the sides, the slots, and
-- what notes have read since marks and lists of paths.
pub record Graces (first : First) (cells : Cells) (es : List Event) (views : List View) : Type 0 where
  pub keeper : Each IsKeeper views
  pub lasts : Each HasLast views
  pub stored : cells.order ≡ last_order first.order es
  pub formed : Each Formed views
  pub sides : (x : ℕ) → SideAt x (cells.entries x) (cells.inside x) es views
  pub slots : (s : ℕ) → SlotAt s (status (first.status s) s es) (cells.rows s) cells.order (cells.depths s) cells.currents views
  pub marks : (s : ℕ) → MarksAt s (cells.rows s).version es views
  pub orders : OrdersAt cells.order.version es views
  pub spans : (s : ℕ) → SpanAt (is_going (first.status s)) s (cells.rows s).version (is_going (status (first.status s) s es)) es views
  pub lives : (s : ℕ) → LifeAt s (given s es) (cells.rows s).version views

-- That of the sequence of the first view.
abbrev pub Keeps : First → Cells → List View → Type 0
Keeps first cells views = Graces first cells (keeping views) views
