-- What a section tells of what it read.
use Rattle.std.specs.Prelude.{◌≡◌, ℕ, ◌<◌, ◌≤◌, Bool, true, false, List, [], ◌∷◌, ◌++◌, ◌-◌, None, length, slice_index, slice_index_or, Some}
use Rattle.mp_words.specs.declared.row.Row.{Row}
use Rattle.mp_words.specs.declared.order.Order.{Order}
use Rattle.mp_words.specs.declared.note.Note.{Note}
use Rattle.mp_words.specs.declared.reading.Reading.{Reading}
use Rattle.mp_words.specs.Row.{is_given}
use Rattle.mp_words.specs.Effect.{free_row}
use Rattle.mp_words.specs.Facts.{IsRow, IsOrder}
use Rattle.mp_core.specs.declared.view.Section.{Section}
use Rattle.mp_core.specs.declared.view.Seen.{Seen}
use Rattle.mp_core.specs.declared.view.View.{View}
use Rattle.mp_core.specs.Memory.{Memory, side_at, row_at, entered_in, left_in}
use Rattle.mp_core.specs.Notes.{blank_note, order_noted}
use Rattle.mp_core.specs.Core.{Core, stepped, Tells}
use Rattle.mp_core.specs.Kinds.{IsAlone}
use Rattle.mp_core.specs.Views.{opened, entered, noted, unheld, greatest, seen_row}

-- A section is entered, on the side of the index.
pub record Begins (a b : Core) (s : Section) : Type 0 where
  pub section : s ≡ opened a.lane s.note.side s.note.ticket
  pub range : s.note.side < 2
  pub after : b ≡ stepped (entered s) (entered_in s.note.side) a
  pub told : Tells a (λ m. (s.note.side ≡ m.index) × (s.note.ticket ≡ (side_at m m.index).entries))

-- The seen versions never fall, and where no lane is out they stay.
pub record Later (a : Core) (seen : Seen) : Type 0 where
  pub order : a.view.seen.order ≤ seen.order
  pub rows : (slot : ℕ) → seen_row a.view slot ≤ greatest slot seen.rows
  pub order_still : IsAlone a → seen.order ≡ a.view.seen.order
  pub rows_still : IsAlone a → (slot : ℕ) → greatest slot seen.rows ≡ seen_row a.view slot

-- A version that was read is not below those seen before, nor above those seen after. Where no lane is out it is the
-- greatest seen before.
pub record IsFresh (a : Core) (before after version : ℕ) : Type 0 where
  pub from : before ≤ version
  pub to : version ≤ after
  pub last : IsAlone a → version ≡ before

-- What is known of a list of paths that a section read.
pub record OrderRead (a : Core) (seen : Seen) (order : Order) : Type 0 where
  pub lawful : IsOrder order
  pub below : order.version < 1073741824
  pub fresh : IsFresh a a.view.seen.order seen.order order.version
  pub told : Tells a (λ m. order ≡ m.order)

-- What is known of a row that a section read.
pub record RowRead (a : Core) (seen : Seen) (slot : ℕ) (row : Row) : Type 0 where
  pub lawful : IsRow row
  pub below : row.version < 1073741824
  pub given : is_given row ≡ true
  pub fresh : IsFresh a (seen_row a.view slot) (greatest slot seen.rows) row.version
  pub told : Tells a (λ m. row ≡ row_at m slot)

-- the slot at a place of a reading
abbrev pub slot_of : Reading → ℕ → ℕ
slot_of r place = slice_index r.slots place

-- the row at a place of a reading
abbrev pub row_of_place : Reading → ℕ → Row
row_of_place r place = slice_index_or r.rows place (free_row 0)

-- the row at a place was loaded
abbrev pub is_read : Note → ℕ → Bool
is_read n place = slice_index_or n.read place false

-- The rows of all listed slots were loaded.
abbrev pub IsWhole : Note → Type 0
IsWhole n = (place : ℕ) → place < n.reading.len → is_read n place ≡ true

-- A note whose lists have their lengths, and whose slots differ.
pub record IsNote (n : Note) : Type 0 where
  pub within : n.reading.len ≤ 8
  pub slots : length n.reading.slots ≡ 8
  pub rows : length n.reading.rows ≡ 8
  pub read : length n.read ≡ 8
  pub depths : length n.depths ≡ 8
  pub distinct : (i j : ℕ) → i < n.reading.len → j < n.reading.len → slot_of n.reading i ≡ slot_of n.reading j → i ≡ j

-- What is known of each row that the note has loaded.
abbrev pub RowsRead : Core → Seen → Note → Type 0
RowsRead a seen n =
    (place : ℕ) → place < n.reading.len → is_read n place ≡ true → RowRead a seen (slot_of n.reading place) (row_of_place n.reading place)

-- What is known of all that a note has read, by a section that began so and ended with these seen versions.
pub record NoteRead (a : Core) (seen : Seen) (n : Note) : Type 0 where
  pub note : IsNote n
  pub later : Later a seen
  pub order : (order : Order) → n.order ≡ Some order → OrderRead a seen order
  pub rows : RowsRead a seen n

-- The section is the open one, and a step was made since it is.
abbrev pub IsOpen : Core → Section → Type 0
IsOpen c s = c.view ≡ noted s c.view

-- what a pass knows after loads alone: the section became another, and versions were seen
abbrev pub loaded : Section → Seen → Core → Core
loaded t seen c = record c { view = record (noted t c.view) { seen = seen } }

-- the section, with these rows loaded
abbrev pub with_rows : List Row → List Bool → Section → Section
with_rows rows read s = record s { note = record (s.note) { reading = record (s.note.reading) { rows = rows }; read = read } }

-- The rows at the first places were loaded, in list order.
pub record LoadsRows (upto : ℕ) (a b : Core) (s t : Section) : Type 0 where
  pub section : t ≡ with_rows t.note.reading.rows t.note.read s
  pub after : b ≡ loaded t b.view.seen a
  pub note : IsNote t.note
  pub later : Later a b.view.seen
  pub read : (place : ℕ) → place < upto → is_read t.note place ≡ true
  pub rest : (place : ℕ) → upto ≤ place → is_read t.note place ≡ is_read s.note place
  pub rows : (place : ℕ) → place < upto → RowRead a b.view.seen (slot_of t.note.reading place) (row_of_place t.note.reading place)

-- a view to which one section was added, with these seen versions: one finished note more, and one unit less
abbrev pub with_section : Note → Seen → View → View
with_section n seen v = record v { left = v.left - 1; inside = None; done = v.done ++ n ∷ []; seen = seen; keeping = unheld v.keeping }

-- the words after a section on a side, in which they were changed so
abbrev pub section_in : ℕ → (Memory → Memory) → Memory → Memory
section_in side change m = left_in side (change (entered_in side m))

-- a section that has read the list of paths, and nothing else
abbrev pub ordered : Order → ℕ → ℕ → ℕ → Section
ordered order lane side ticket = record { note = order_noted order (blank_note lane side ticket); sent = false; tried = false }

-- The section has read a lawful list of paths, and nothing else.
pub record IsOrdered (s : Section) (order : Order) : Type 0 where
  pub section : s ≡ ordered order s.note.lane s.note.side s.note.ticket
  pub lawful : IsOrder order
