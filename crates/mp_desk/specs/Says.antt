-- What calls say of how they ended, and the entries that they made.
use Rattle.std.specs.Prelude.{ℕ, Bool, true, false, List, [], ◌∷◌, length, Option, None, Some, Result, Ok, Err}
use Rattle.mp_words.specs.declared.entry.RowEntry.{RowEntry}
use Rattle.mp_words.specs.declared.note.Note.{Note}
use Rattle.mp_words.specs.declared.trying.Back.{Back}
use Rattle.mp_words.specs.declared.trying.Back.TheVariants as way
use Rattle.mp_words.specs.declared.trying.Try.{Try}
use Rattle.mp_words.specs.RequestView.{RequestView}
use Rattle.mp_record.specs.declared.event.Event.{Event}
use Rattle.mp_record.specs.declared.event.Event.TheVariants as event
use Rattle.mp_record.specs.declared.event.Said.{Said}
use Rattle.mp_record.specs.declared.event.Said.TheVariants as said
use Rattle.mp_change.specs.declared.change.ChangeEnd.{ChangeEnd}
use Rattle.mp_change.specs.declared.change.ChangeEnd.TheVariants as change
use Rattle.mp_submit.specs.declared.finish.Finished.{Finished}
use Rattle.mp_submit.specs.declared.finish.Finished.TheVariants as finished
use Rattle.mp_keep.specs.declared.added.Added.{Added}
use Rattle.mp_keep.specs.declared.add_error.AddError.{AddError}
use Rattle.mp_keep.specs.declared.add_error.AddError.TheVariants as add
use Rattle.mp_keep.specs.declared.remove_error.RemoveError.{RemoveError}
use Rattle.mp_keep.specs.declared.remove_error.RemoveError.TheVariants as remove
use Rattle.mp_keep.specs.declared.reaped.Reaped.{Reaped}
use Rattle.mp_keep.specs.declared.reaped.Reaped.TheVariants as reap
use Rattle.mp_keep.specs.declared.stop.Stop.TheVariants as stop

-- the event of a section that met no other row
abbrev pub section : Note → Event
section n = event.Sec n None

-- the event of a section that found another version of a slot's row
abbrev pub moved_section : Note → ℕ → ℕ → Event
moved_section n slot version = event.Sec n (Some (slot, version))

-- the event of a try
abbrev pub try_event : RequestView → Try → Event
try_event after made = event.Try after.id made.hop made.end

-- how a try came back, if it was made and did
abbrev pub back_in : Option Try → Option Back
back_in None = None
back_in (Some t) = t.back

-- the event of a try's end, if it was made
abbrev pub end_event : RequestView → Option Try → List Event
end_event after None = []
end_event after (Some t) = event.Fin after.id (length after.tries) t.statuses t.count t.back ∷ []

-- the row entry with which a try came back, where pending was set
abbrev pub entries_back : Option Back → List RowEntry
entries_back None = []
entries_back (Some way.Unset) = []
entries_back (Some (way.Set e)) = e ∷ []

-- the section that a finish entered which wasn't done
abbrev pub sections_of : Finished → List Event
sections_of (finished.Done status) = []
sections_of (finished.Back n) = section n ∷ []
sections_of (finished.Moved f row n) = moved_section n f.slot row.version ∷ []

-- what a line says of how its row change ended; that the row has moved is never said
abbrev pub said_of : ChangeEnd → List Said
said_of (change.Changed e) = said.Changed e.slot e.row.version ∷ []
said_of (change.Refused slot row) = said.Refused slot row.version row.cstate ∷ []
said_of (change.NotArmed slot row) = said.NotArmed slot row.version ∷ []
said_of (change.NoPath order) = said.NoPath order.version ∷ []
said_of (change.Moved slot row) = []

-- the row entry that a row change made, if it made one
abbrev pub entry_in : ChangeEnd → List RowEntry
entry_in (change.Changed e) = e ∷ []
entry_in (change.Refused slot row) = []
entry_in (change.NotArmed slot row) = []
entry_in (change.NoPath order) = []
entry_in (change.Moved slot row) = []

-- the section of a row change
abbrev pub section_of : Note → ChangeEnd → Event
section_of n (change.Changed e) = section n
section_of n (change.Refused slot row) = section n
section_of n (change.NotArmed slot row) = section n
section_of n (change.NoPath order) = section n
section_of n (change.Moved slot row) = moved_section n slot row.version

-- the row entry that an add made, if it made one
abbrev pub entry_added : Result Added AddError → List RowEntry
entry_added (Ok added) = added.row ∷ []
entry_added (Err e) = []

-- what a line says of how its add ended
abbrev pub added_said : Result Added AddError → Said
added_said (Ok added) = said.Added added.row.slot added.row.row.version added.order.order.version
added_said (Err (add.Already slot)) = said.Already slot
added_said (Err add.NoSlot) = said.NoSlot
added_said (Err add.OrderFull) = said.OrderFull

-- the row entry that the begin of a removal made, if it made one
abbrev pub entry_marked : Result RowEntry RemoveError → List RowEntry
entry_marked (Ok entry) = entry ∷ []
entry_marked (Err e) = []

-- what a line says of how its begin of a removal ended; that the row has moved is never said
abbrev pub marked_said : Result RowEntry RemoveError → List Said
marked_said (Ok entry) = said.Marked entry.slot entry.row.version ∷ []
marked_said (Err (remove.NoPath order)) = said.NoPath order.version ∷ []
marked_said (Err (remove.Moved row)) = []

-- what a line says of how its reap ended
abbrev pub reaped_said : Reaped → Said
reaped_said reap.Idle = said.Idle
reaped_said (reap.Freed entry flips) = said.Freed entry.slot entry.row.version flips
reaped_said (reap.Again slot (stop.Section grace side inside)) = said.AgainSection slot grace side inside
reaped_said (reap.Again slot (stop.Depth depth)) = said.AgainDepth slot depth

-- a row change met no other row
abbrev pub is_over : ChangeEnd → Bool
is_over (change.Changed e) = true
is_over (change.Refused slot row) = true
is_over (change.NotArmed slot row) = true
is_over (change.NoPath order) = true
is_over (change.Moved slot row) = false

-- a row was marked, or no path found
abbrev pub is_begun : Result RowEntry RemoveError → Bool
is_begun (Ok entry) = true
is_begun (Err (remove.NoPath order)) = true
is_begun (Err (remove.Moved row)) = false
