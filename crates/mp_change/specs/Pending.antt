-- What setting pending on a flight's path does, and what clearing its current words does.
use Rattle.std.specs.Prelude.{◌≡◌, ℕ, ◌<◌, true, false, ◌∷◌, option_map, if◌then◌else◌}
use Rattle.mp_words.specs.declared.row.Row.{Row}
use Rattle.mp_words.specs.declared.op.Op.TheVariants as op
use Rattle.mp_words.specs.declared.op.Maker.{Maker}
use Rattle.mp_words.specs.declared.note.Note.{Note}
use Rattle.mp_core.specs.declared.view.Section.{Section}
use Rattle.mp_core.specs.declared.view.Seen.{Seen}
use Rattle.mp_core.specs.declared.view.View.{View}
use Rattle.mp_core.specs.Core.{Core, Tells, looked}
use Rattle.mp_core.specs.Memory.{Memory, side_at, row_at}
use Rattle.mp_core.specs.Notes.{blank_note, flight_noted}
use Rattle.mp_core.specs.Views.{unheld, row_moved}
use Rattle.mp_core.specs.Kinds.{IsAlone, RowMoved, entry_of, LoadsFlight}
use Rattle.mp_core.specs.Reads.{Later, RowRead, with_section, section_in}
use Rattle.mp_change.specs.declared.change.ChangeEnd.TheVariants.{Changed}
use Rattle.mp_change.specs.declared.pending.PendingEnd.{PendingEnd}
use Rattle.mp_change.specs.declared.pending.PendingEnd.TheVariants as end
use Rattle.mp_change.specs.Clears.{cleared_upto, cleared_upto_in}
use Rattle.mp_change.specs.Changes.{made_view, made_in, end_view}

-- The view after the current words of all nodes were cleared of a slot.
abbrev pub dropped : ℕ → View → View
dropped slot v = cleared_upto slot 8 (record v { keeping = unheld v.keeping })

-- The view with what setting pending adds to it, besides the section: the entry, where the row was changed, and the
-- clearing.
abbrev pub pending_view : ℕ → PendingEnd → View → View
pending_view slot (end.Set e) v = end_view (Changed e) v
pending_view slot (end.NoAna row) v = dropped slot v
pending_view slot (end.Moved row) v = v

-- The words after setting pending: the row that was changed, and the clearing.
abbrev pub pending_in : ℕ → PendingEnd → Memory → Memory
pending_in slot (end.Set e) m = made_in e m
pending_in slot (end.NoAna row) m = cleared_upto_in slot 8 m
pending_in slot (end.Moved row) m = m

-- The seen versions after setting pending: that of the row that was made, or found by Moved, besides the one read.
abbrev pub pending_seen : ℕ → PendingEnd → Seen → Seen
pending_seen slot (end.Set e) s = record s { rows = record { slot = e.slot; version = e.row.version } ∷ s.rows }
pending_seen slot (end.NoAna row) s = s
pending_seen slot (end.Moved row) s = record s { rows = record { slot = slot; version = row.version } ∷ s.rows }

-- Each end of setting pending by the row that the section read: its flag ana decides whether the row is changed.
abbrev pub PendingBy : ℕ → Maker → Row → PendingEnd → Type 0
PendingBy slot by row (end.Set e) = (row.ana ≡ true) × (e ≡ entry_of slot row op.Pending by)
PendingBy slot by row (end.NoAna r) = (row.ana ≡ false) × (r ≡ row)
PendingBy slot by row (end.Moved r) = (row.ana ≡ true) × (row.version < r.version)

-- The row has moved.
abbrev pub HasMoved : PendingEnd → Type 0
HasMoved (end.Set e) = ⊥
HasMoved (end.NoAna row) = ⊥
HasMoved (end.Moved row) = Unit {0}

-- How setting pending on a slot ends on the words.
abbrev pub told_pending : ℕ → Maker → Memory → PendingEnd
told_pending slot by m = if (row_at m slot).ana then end.Set (entry_of slot (row_at m slot) op.Pending by) else end.NoAna (row_at m slot)

-- What setting pending on a flight's path does: a finished section more, which read the row of the flight's slot alone.
pub record MarksPending (slot : ℕ) (by : Maker) (a b : Core) (ending : PendingEnd) (n : Note) : Type 0 where
  -- the row that the section read, and the versions seen by then
  pub row : Row
  pub seen : Seen
  -- the view gains one finished note, and the entry if pending was set; one unit is used
  pub view : b ≡ record a { view = with_section n (pending_seen slot ending seen) (pending_view slot ending a.view); told = option_map (section_in n.side (pending_in slot ending)) a.told }
  pub note : n ≡ flight_noted slot row (blank_note a.lane n.side n.ticket)
  pub side : n.side < 2
  pub read : RowRead a seen slot row
  pub later : Later a seen
  pub ends : PendingBy slot by row ending
  pub still : IsAlone a → HasMoved ending → ⊥
  pub told : Tells a (λ m. ending ≡ told_pending slot by m)
  pub told_ticket : Tells a (λ m. (n.side ≡ m.index) × (n.ticket ≡ (side_at m m.index).entries))

-- What clearing the current paths that are a flight's path does: a finished section more, which read nothing.
pub record DropsCurrent (slot : ℕ) (a b : Core) (n : Note) : Type 0 where
  pub view : b ≡ record a { view = with_section n a.view.seen (dropped slot a.view); told = option_map (section_in n.side (cleared_upto_in slot 8)) a.told }
  pub note : n ≡ blank_note a.lane n.side n.ticket
  pub side : n.side < 2
  pub told_ticket : Tells a (λ m. (n.side ≡ m.index) × (n.ticket ≡ (side_at m m.index).entries))

-- How setting pending ends once the row is loaded.
abbrev pub PendTo : Core → Core → Section → Section → ℕ → Maker → Row → PendingEnd → Type 0
PendTo b c t u slot by row (end.Set e) =
    (row.ana ≡ true) × (e ≡ entry_of slot row op.Pending by) × (c ≡ record b { view = made_view e u b.view; told = option_map (made_in e) b.told })
PendTo b c t u slot by row (end.Moved r) = (row.ana ≡ true) × (c ≡ looked (row_moved slot r u) b) × RowMoved b slot row r
PendTo b c t u slot by row (end.NoAna r) = (row.ana ≡ false) × (r ≡ row) × (c ≡ record b { view = cleared_upto slot 8 b.view; told = option_map (cleared_upto_in slot 8) b.told }) × (u ≡ t)

-- Setting pending in a section: it loads the flight's row, and then changes it or clears alone.
pub record Pends (slot : ℕ) (by : Maker) (a c : Core) (s u : Section) (ending : PendingEnd) : Type 0 where
  pub b : Core
  pub t : Section
  pub row : Row
  pub loads : LoadsFlight a b s t slot row
  pub section : u ≡ record t { tried = u.tried }
  pub ends : PendTo b c t u slot by row ending
