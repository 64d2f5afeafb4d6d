-- What each load of a section adds to its note.
use Rattle.std.specs.Prelude.{◌≡◌, ℕ, ◌<◌, Bool, true, false, List, ◌∷◌, replicate, Option, None, Some, slice_index, slice_index_or, slice_set}
use Rattle.mp_words.specs.declared.row.Row.{Row}
use Rattle.mp_words.specs.declared.order.Order.{Order}
use Rattle.mp_words.specs.declared.note.Note.{Note}
use Rattle.mp_words.specs.declared.reading.Reading.{Reading}
use Rattle.mp_words.specs.Effect.{free_row}
use Rattle.mp_words.specs.Places.{place_in}
use Rattle.mp_words.specs.Row.{is_enabled, is_usable}
use Rattle.mp_core.specs.declared.view.Section.{Section}

-- a reading of these slots of which no row is loaded
abbrev pub blank_reading : ℕ → List ℕ → Reading
blank_reading len slots = record { len = len; slots = slots; rows = replicate 8 (free_row 0) }

-- the note of a section that has read nothing yet, of this lane, side and ticket
abbrev pub blank_note : ℕ → ℕ → ℕ → Note
blank_note lane side ticket = record {
  lane = lane;
  side = side;
  ticket = ticket;
  order = None;
  reading = blank_reading 0 (replicate 8 0);
  read = replicate 8 false;
  current = None;
  depths = replicate 8 None;
}

-- the note once the list of paths was loaded: it lists its slots, and no row is loaded yet
abbrev pub order_noted : Order → Note → Note
order_noted order n = record n { order = Some order; reading = blank_reading order.len order.slots; read = replicate 8 false }

-- the note once the row of a listed slot was loaded
abbrev pub row_noted : ℕ → Row → Note → Note
row_noted slot row n = record n {
  reading = record (n.reading) { rows = slice_set n.reading.rows (place_in slot n.reading) row };
  read = slice_set n.read (place_in slot n.reading) true;
}

-- the note once the row of a flight's slot was loaded: it has this slot and row alone
abbrev pub flight_noted : ℕ → Row → Note → Note
flight_noted slot row n = record n {
  reading = record { len = 1; slots = slot ∷ replicate 7 0; rows = row ∷ replicate 7 (free_row 0) };
  read = true ∷ replicate 7 false;
}

-- the note once the depth of a listed slot was loaded
abbrev pub depth_noted : ℕ → ℕ → Note → Note
depth_noted slot depth n = record n { depths = slice_set n.depths (place_in slot n.reading) (Some depth) }

-- the note once a node's current word was loaded
abbrev pub current_noted : Option ℕ → Note → Note
current_noted current n = record n { current = Some current }

-- the row that the note has of a slot
abbrev pub row_of : ℕ → Note → Row
row_of slot n = slice_index_or n.reading.rows (place_in slot n.reading) (free_row 0)

-- The row of a slot was loaded in this section, and is this one.
pub record HasRow (n : Note) (slot : ℕ) (row : Row) : Type 0 where
  pub listed : place_in slot n.reading < n.reading.len
  pub loaded : slice_index_or n.read (place_in slot n.reading) false ≡ true
  pub is : row_of slot n ≡ row

-- A loaded row of the slot passes the test.
abbrev pub HasSuch : (Row → Bool) → Note → ℕ → Type 0
HasSuch test n slot = HasRow n slot (row_of slot n) × (test (row_of slot n) ≡ true)

-- The section loaded a usable row of the slot.
abbrev pub HasUsable : Note → ℕ → Type 0
HasUsable n slot = HasSuch is_usable n slot

-- The section loaded an enabled row of the slot.
abbrev pub HasEnabled : Note → ℕ → Type 0
HasEnabled n slot = HasSuch is_enabled n slot

-- None may be stored, or a slot whose enabled row the section loaded.
abbrev pub MayStore : Note → Option ℕ → Type 0
MayStore n None = Unit {0}
MayStore n (Some slot) = HasEnabled n slot

-- The slot is one of those of the note's reading.
abbrev pub Lists : Note → ℕ → Type 0
Lists n slot = place_in slot n.reading < n.reading.len

-- The section has read neither the list of paths nor a flight's row.
abbrev pub ReadsNothing : Note → Type 0
ReadsNothing n = (n.order ≡ None) × (n.reading.len ≡ 0)

-- The section has not read the list of paths, and no row of another slot.
abbrev pub ReadsAlone : ℕ → Note → Type 0
ReadsAlone slot n = (n.order ≡ None) × ((i : ℕ) → i < n.reading.len → slice_index n.reading.slots i ≡ slot)

-- the section, with another note
abbrev pub with_note : Note → Section → Section
with_note n s = record s { note = n }
