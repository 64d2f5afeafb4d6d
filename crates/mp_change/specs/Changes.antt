-- What a row change does.
use Rattle.std.specs.Prelude.{◌≡◌, ℕ, ◌<◌, true, [], ◌∷◌, ◌++◌, Option, None, Some, option_map, replicate}
use Rattle.mp_words.specs.declared.row.Row.{Row}
use Rattle.mp_words.specs.declared.op.Op.{Op}
use Rattle.mp_words.specs.declared.op.Op.TheVariants as op
use Rattle.mp_words.specs.declared.op.Maker.{Maker}
use Rattle.mp_words.specs.declared.op.Effect.{Effect}
use Rattle.mp_words.specs.declared.op.Effect.TheVariants as effect
use Rattle.mp_words.specs.declared.order.Order.{Order}
use Rattle.mp_words.specs.declared.note.Note.{Note}
use Rattle.mp_words.specs.declared.entry.RowEntry.{RowEntry}
use Rattle.mp_words.specs.declared.path.Path.{Path}
use Rattle.mp_words.specs.PathTable.{path_table, path_with}
use Rattle.mp_words.specs.Effect.{effect_of, clears_of}
use Rattle.mp_core.specs.declared.view.Section.{Section}
use Rattle.mp_core.specs.declared.view.Seen.{Seen}
use Rattle.mp_core.specs.declared.view.View.{View}
use Rattle.mp_core.specs.declared.view.RowEnd.{RowEnd}
use Rattle.mp_core.specs.declared.view.RowEnd.TheVariants as made
use Rattle.mp_core.specs.Core.{Core, Tells, looked}
use Rattle.mp_core.specs.Memory.{Memory, side_at, row_at, row_in}
use Rattle.mp_core.specs.Views.{unheld, noted, row_changed, row_moved}
use Rattle.mp_core.specs.Kinds.{IsAlone, IsStated, Changes, RowMoved, entry_of}
use Rattle.mp_core.specs.Reads.{NoteRead, IsNote, Later, RowsRead, with_rows, with_section, section_in}
use Rattle.mp_change.specs.declared.change.ChangeEnd.{ChangeEnd}
use Rattle.mp_change.specs.declared.change.ChangeEnd.TheVariants as end
use Rattle.mp_change.specs.Clears.{clears_in, clears_view}
use Rattle.mp_change.specs.Finds.{NoneUpto, IsFirst, ReadsUpto}

-- An operation of a line: a log page, with a stated ANA state from 1 to 15, a controller's change, or the end of the
-- transition timeout.
abbrev pub IsLineOp : Op → Type 0
IsLineOp (op.Log stated changing) = IsStated stated
IsLineOp (op.Ctrl cstate) = Unit {0}
IsLineOp op.Expire = Unit {0}
IsLineOp op.Pending = ⊥
IsLineOp (op.Give gift) = ⊥
IsLineOp op.Mark = ⊥
IsLineOp op.Free = ⊥

-- The view after a section changed a row, with its clearing.
abbrev pub made_view : RowEntry → Section → View → View
made_view e t v = clears_view (clears_of e.op e.row) e.slot (row_changed e t v)

-- The words after a row change, with its clearing.
abbrev pub made_in : RowEntry → Memory → Memory
made_in e m = clears_in (clears_of e.op e.row) e.slot (row_in e.slot e.row m)

-- How a change of a section ends: with its entry and its clearing, or with the row found.
abbrev pub MadeTo : Core → Core → Section → Section → ℕ → Row → Op → Maker → RowEnd → Type 0
MadeTo a b s t slot old op by (made.Done e) =
    (e ≡ entry_of slot old op by) × (b ≡ record a { view = made_view e t a.view; told = option_map (made_in e) a.told }) × Tells a (λ m. row_at m slot ≡ old)
MadeTo a b s t slot old op by (made.Moved row) = (b ≡ looked (row_moved slot row t) a) × RowMoved a slot old row

-- A change of a row that the section loaded, with its clearing.
pub record MakesChange (a b : Core) (s t : Section) (slot : ℕ) (old : Row) (op : Op) (by : Maker) (ending : RowEnd) : Type 0 where
  pub section : t ≡ record s { tried = true }
  pub ends : MadeTo a b s t slot old op by ending

-- The view with what an end adds to it, besides the section: where the row was changed the entry, and the clearing.
abbrev pub end_view : ChangeEnd → View → View
end_view (end.Changed e) v = clears_view (clears_of e.op e.row) e.slot (record v { entries = v.entries ++ e ∷ []; keeping = unheld v.keeping })
end_view (end.Refused slot row) v = v
end_view (end.NotArmed slot row) v = v
end_view (end.NoPath order) v = v
end_view (end.Moved slot row) v = v

-- The words after an end: the row that was changed, and the clearing.
abbrev pub end_in : ChangeEnd → Memory → Memory
end_in (end.Changed e) m = made_in e m
end_in (end.Refused slot row) m = m
end_in (end.NotArmed slot row) m = m
end_in (end.NoPath order) m = m
end_in (end.Moved slot row) m = m

-- The seen versions after an end: that of the row that was made, or found by Moved, besides those that the section read.
abbrev pub end_seen : ChangeEnd → Seen → Seen
end_seen (end.Changed e) s = record s { rows = record { slot = e.slot; version = e.row.version } ∷ s.rows }
end_seen (end.Refused slot row) s = s
end_seen (end.NotArmed slot row) s = s
end_seen (end.NoPath order) s = s
end_seen (end.Moved slot row) s = record s { rows = record { slot = slot; version = row.version } ∷ s.rows }

-- Each end by what the section read: where the row is changed, refused, not armed or moved, the first listed row of the
-- controller's, which that end is the operation's effect on; where there is no path, all listed rows, of which none is
-- the controller's.
abbrev pub EndsBy : ℕ → Op → Maker → Note → ChangeEnd → Type 0
EndsBy ctrl op by n (end.Changed e) = (old : Row) × IsFirst ctrl n e.slot old × Changes old op × (e ≡ entry_of e.slot old op by)
EndsBy ctrl op by n (end.Refused slot row) = IsFirst ctrl n slot row × (effect_of row op ≡ effect.Refused row.cstate)
EndsBy ctrl op by n (end.NotArmed slot row) = IsFirst ctrl n slot row × (effect_of row op ≡ effect.NotArmed)
EndsBy ctrl op by n (end.NoPath order) = (n.order ≡ Some order) × NoneUpto ctrl n.reading.len n
EndsBy ctrl op by n (end.Moved slot row) = (old : Row) × IsFirst ctrl n slot old × Changes old op × (old.version < row.version)

-- The row has moved.
abbrev pub IsMoved : ChangeEnd → Type 0
IsMoved (end.Changed e) = ⊥
IsMoved (end.Refused slot row) = ⊥
IsMoved (end.NotArmed slot row) = ⊥
IsMoved (end.NoPath order) = ⊥
IsMoved (end.Moved slot row) = Unit {0}

-- How a change of a slot's row ends, by the operation's effect on it, where nothing comes between.
abbrev pub end_by : ℕ → Row → Op → Maker → Effect → ChangeEnd
end_by slot row op by (effect.Changed new) = end.Changed (record { slot = slot; row = new; op = op; by = by })
end_by slot row op by (effect.Refused cstate) = end.Refused slot row
end_by slot row op by effect.NotArmed = end.NotArmed slot row

-- How a change of a controller's path ends on a list of paths, by the first path that is the controller's, where nothing
-- comes between.
abbrev pub end_on : Order → Op → Maker → Option Path → ChangeEnd
end_on order op by None = end.NoPath order
end_on order op by (Some path) = end_by path.slot path.row op by (effect_of path.row op)

-- How a change of a controller's path ends on the words.
abbrev pub told_end : ℕ → Op → Maker → Memory → ChangeEnd
told_end ctrl op by m = end_on m.order op by (path_with ctrl (path_table m.order (row_at m)))

-- What a change of a controller's path does: a finished section more, in which its end stands by what was read.
pub record ChangesPath (ctrl : ℕ) (op : Op) (by : Maker) (a b : Core) (ending : ChangeEnd) (n : Note) (seen : Seen) : Type 0 where
  -- the view gains one finished note, and the entry if the row was changed; one unit is used
  pub view : b ≡ record a { view = with_section n (end_seen ending seen) (end_view ending a.view); told = option_map (section_in n.side (end_in ending)) a.told }
  -- the note is this lane's, on the side that it entered, and all that it read was there
  pub lane : n.lane ≡ a.lane
  pub side : n.side < 2
  pub read : NoteRead a seen n
  pub ordered : (order : Order) × (n.order ≡ Some order)
  -- besides the order it loaded rows alone, in list order up to the first that is the controller's
  pub rows : ReadsUpto ctrl n
  pub alone : (n.current ≡ None) × (n.depths ≡ replicate 8 None)
  -- the end is that of the first listed path of the controller, as it was read
  pub ends : EndsBy ctrl op by n ending
  -- where no lane is out, or the words are told, the row hasn't moved
  pub still : IsAlone a → IsMoved ending → ⊥
  pub told : Tells a (λ m. ending ≡ told_end ctrl op by m)
  pub told_ticket : Tells a (λ m. (n.side ≡ m.index) × (n.ticket ≡ (side_at m m.index).entries))
  pub told_order : Tells a (λ m. n.order ≡ Some m.order)

-- How a change of the row that was found ends.
abbrev pub FoundTo : Core → Core → Section → Section → ℕ → Row → Op → Maker → ChangeEnd → Type 0
FoundTo a b s t slot old op by (end.Changed e) =
    Changes old op × (e ≡ entry_of slot old op by) × (b ≡ record a { view = made_view e t a.view; told = option_map (made_in e) a.told }) × Tells a (λ m. row_at m slot ≡ old)
FoundTo a b s t slot old op by (end.Moved at row) = Changes old op × (at ≡ slot) × (b ≡ looked (row_moved slot row t) a) × RowMoved a slot old row
FoundTo a b s t slot old op by (end.Refused at row) = (at ≡ slot) × (row ≡ old) × (effect_of old op ≡ effect.Refused old.cstate) × (b ≡ a) × (t ≡ s)
FoundTo a b s t slot old op by (end.NotArmed at row) = (at ≡ slot) × (row ≡ old) × (effect_of old op ≡ effect.NotArmed) × (b ≡ a) × (t ≡ s)
FoundTo a b s t slot old op by (end.NoPath order) = ⊥

-- A change of the row that was found, once it is loaded.
pub record ChangesFound (a b : Core) (s t : Section) (slot : ℕ) (old : Row) (op : Op) (by : Maker) (ending : ChangeEnd) : Type 0 where
  pub section : t ≡ record s { tried = t.tried }
  pub ends : FoundTo a b s t slot old op by ending

-- The view after a controller's path was changed, once the list of paths is loaded: the section became another, and the
-- end adds what it does.
abbrev pub one_view : ChangeEnd → Section → Seen → View → View
one_view ending u seen v = record (end_view ending (noted u v)) { seen = end_seen ending seen }

-- Each end by what the section read, where it has read this list of paths.
abbrev pub EndsOne : ℕ → Op → Maker → Order → Note → ChangeEnd → Type 0
EndsOne ctrl op by o n (end.NoPath order) = (order ≡ o) × NoneUpto ctrl n.reading.len n
EndsOne ctrl op by o n (end.Changed e) = EndsBy ctrl op by n (end.Changed e)
EndsOne ctrl op by o n (end.Refused slot row) = EndsBy ctrl op by n (end.Refused slot row)
EndsOne ctrl op by o n (end.NotArmed slot row) = EndsBy ctrl op by n (end.NotArmed slot row)
EndsOne ctrl op by o n (end.Moved slot row) = EndsBy ctrl op by n (end.Moved slot row)

-- A change of a controller's path, once the list of paths is loaded.
pub record ChangesOne (ctrl : ℕ) (op : Op) (by : Maker) (order : Order) (a c : Core) (s u : Section) (ending : ChangeEnd) : Type 0 where
  pub seen : Seen
  pub section : u ≡ record (with_rows u.note.reading.rows u.note.read s) { tried = u.tried }
  pub view : c ≡ record a { view = one_view ending u seen a.view; told = option_map (end_in ending) a.told }
  pub note : IsNote u.note
  pub later : Later a seen
  pub rows : RowsRead a seen u.note
  pub just : ReadsUpto ctrl u.note
  pub ends : EndsOne ctrl op by order u.note ending
  pub still : IsAlone a → IsMoved ending → ⊥
  pub told : Tells a (λ m. order ≡ m.order → ending ≡ told_end ctrl op by m)
