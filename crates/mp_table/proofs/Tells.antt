-- What each kind of step tells of the number that it found and of the view after it.
use Rattle.std.proofs.Common.{◌≡◌, ℕ, ◌-◌, ◌/◌, ◌<◌, ◌==◌, true, false, Option, Some, if◌then◌else◌}
use Rattle.atomic_table.specs.Seated.{TableId}
use Rattle.mp_words.specs.declared.row.Row.{Row}
use Rattle.mp_words.specs.declared.op.Op.{Op}
use Rattle.mp_words.specs.declared.op.Maker.{Maker}
use Rattle.mp_words.specs.declared.flight.Flight.{Flight}
use Rattle.mp_words.specs.declared.entry.OrderEntry.{OrderEntry}
use Rattle.mp_words.specs.OrderWord.{is_no_order, order_in}
use Rattle.mp_words.specs.RowWord.{is_no_row, row_in, row_word}
use Rattle.mp_words.specs.SideWord.{side_of_word}
use Rattle.mp_core.specs.declared.view.RowEnd.{RowEnd}
use Rattle.mp_core.specs.declared.view.RowEnd.TheVariants as ends
use Rattle.mp_core.specs.declared.view.Section.{Section}
use Rattle.mp_core.specs.declared.view.View.{View}
use Rattle.mp_core.specs.Notes.{order_noted, row_noted, flight_noted, depth_noted, current_noted, with_note}
use Rattle.mp_core.specs.Unpacked.{current_in_word}
use Rattle.mp_core.specs.Views.{opened}
use Rattle.mp_core.specs.Kinds.{LoadsSide, Enters, Leaves, LoadsOrder, LoadsRow, LoadsFlight, ChangesRow, LoadsDepth, Sends, Lands, LoadsCurrent, StoresCurrent, ClearsCurrent, Looks, Flips, LoadsHeld, KeepsRow, StoresOrder, LooksDepth, EmptiesCurrent, entry_of, flight_of}
use Rattle.mp_table.specs.Known.{core_on, Stays}

-- how a compare-and-exchange of a row from this one ends, by the word that it found
abbrev pub end_of : ℕ → Row → Op → Maker → ℕ → RowEnd
end_of slot old op by n = if n == row_word old then ends.Done (entry_of slot old op by) else ends.Moved (row_in n)

module _ (home : TableId) (lane : ℕ) where
  abbrev pub loads_side : View → ℕ → View → Type 0
  loads_side v n w = (n < 2) × Stays v.left v w × LoadsSide (core_on home lane v) (core_on home lane w) n

  abbrev pub enters : ℕ → View → ℕ → View → Type 0
  enters side v n w = Stays (v.left - 1) v w × Enters (core_on home lane v) (core_on home lane w) side (opened lane side (n / 4294967296))

  abbrev pub leaves : Section → View → ℕ → View → Type 0
  leaves s v n w = Stays v.left v w × Leaves (core_on home lane v) (core_on home lane w) s

  abbrev pub loads_order : Section → View → ℕ → View → Type 0
  loads_order s v n w = (is_no_order n ≡ false) × Stays v.left v w × LoadsOrder (core_on home lane v) (core_on home lane w) s (with_note (order_noted (order_in n) s.note) s) (order_in n)

  abbrev pub loads_row : Section → ℕ → View → ℕ → View → Type 0
  loads_row s slot v n w = (is_no_row n ≡ false) × Stays v.left v w × LoadsRow (core_on home lane v) (core_on home lane w) s (with_note (row_noted slot (row_in n) s.note) s) slot (row_in n)

  abbrev pub loads_flight : Section → ℕ → View → ℕ → View → Type 0
  loads_flight s slot v n w = (is_no_row n ≡ false) × Stays v.left v w × LoadsFlight (core_on home lane v) (core_on home lane w) s (with_note (flight_noted slot (row_in n) s.note) s) slot (row_in n)

  abbrev pub changes_row : Section → ℕ → Row → Op → Maker → View → ℕ → View → Type 0
  changes_row s slot old op by v n w = (is_no_row n ≡ false) × Stays v.left v w × ChangesRow (core_on home lane v) (core_on home lane w) s (record s { tried = true }) slot old op by (end_of slot old op by n)

  abbrev pub loads_depth : Section → ℕ → View → ℕ → View → Type 0
  loads_depth s slot v n w = (n < 4294967296) × Stays v.left v w × LoadsDepth (core_on home lane v) (core_on home lane w) s (with_note (depth_noted slot n s.note) s) slot n

  abbrev pub sends : Section → ℕ → ℕ → View → ℕ → View → Type 0
  sends s slot req v n w = Stays v.left v w × Sends (core_on home lane v) (core_on home lane w) s (record s { sent = true }) slot req (flight_of lane s slot req)

  abbrev pub lands : Flight → View → ℕ → View → Type 0
  lands f v n w = Stays v.left v w × Lands (core_on home lane v) (core_on home lane w) f

  abbrev pub loads_current : Section → ℕ → View → ℕ → View → Type 0
  loads_current s node v n w = ((slot : ℕ) → current_in_word n ≡ Some slot → slot < 15) × Stays v.left v w × LoadsCurrent (core_on home lane v) (core_on home lane w) s (with_note (current_noted (current_in_word n) s.note) s) node (current_in_word n)

  abbrev pub stores_current : Section → ℕ → Option ℕ → View → ℕ → View → Type 0
  stores_current s node current v n w = Stays v.left v w × StoresCurrent (core_on home lane v) (core_on home lane w) s s node current

  abbrev pub clears_current : ℕ → ℕ → View → ℕ → View → Type 0
  clears_current node slot v n w = Stays v.left v w × ClearsCurrent (core_on home lane v) (core_on home lane w) node slot

  abbrev pub looks : ℕ → View → ℕ → View → Type 0
  looks side v n w = Stays v.left v w × Looks (core_on home lane v) (core_on home lane w) side (side_of_word n)

  abbrev pub flips : View → ℕ → View → Type 0
  flips v n w = (w.role ≡ v.role) × (w.keeping.index ≡ 1 - v.keeping.index) × (w.left ≡ v.left) × Flips (core_on home lane v) (core_on home lane w)

  abbrev pub loads_held : ℕ → View → ℕ → View → Type 0
  loads_held slot v n w = (is_no_row n ≡ false) × Stays v.left v w × LoadsHeld (core_on home lane v) (core_on home lane w) slot (row_in n)

  abbrev pub keeps_row : ℕ → Row → Op → Maker → View → ℕ → View → Type 0
  keeps_row slot old op by v n w = (is_no_row n ≡ false) × Stays (v.left - 1) v w × KeepsRow (core_on home lane v) (core_on home lane w) slot old op by (end_of slot old op by n)

  abbrev pub stores_order : OrderEntry → View → ℕ → View → Type 0
  stores_order e v n w = Stays (v.left - 1) v w × StoresOrder (core_on home lane v) (core_on home lane w) e

  abbrev pub looks_depth : ℕ → View → ℕ → View → Type 0
  looks_depth slot v n w = (n < 4294967296) × Stays v.left v w × LooksDepth (core_on home lane v) (core_on home lane w) slot n

  abbrev pub empties_current : ℕ → View → ℕ → View → Type 0
  empties_current node v n w = Stays v.left v w × EmptiesCurrent (core_on home lane v) (core_on home lane w) node
