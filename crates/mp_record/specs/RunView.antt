-- What a run leaves, as plain data, and the same without what its sections and grace periods noted.
use Rattle.std.specs.Prelude.{ℕ, Bool, true, false, List, map, filter, Option}
use Rattle.mp_words.specs.declared.entry.RowEntry.{RowEntry}
use Rattle.mp_words.specs.declared.entry.KeepEntry.{KeepEntry}
use Rattle.mp_words.specs.declared.entry.KeepEntry.TheVariants as keep
use Rattle.mp_words.specs.Request.{Asked, asked_of}
use Rattle.mp_record.specs.declared.event.Event.{Event}
use Rattle.mp_record.specs.declared.event.Event.TheVariants.{Sec, At, Try, Fin}
use Rattle.mp_record.specs.declared.run.Run.{Run}
use Rattle.mp_record.specs.NotesView.{NotesView}

-- What a run leaves: the namespace, the keeper's lane, the rows of each slot, what the keeper made, the events of each
-- lane and of the drain, and the requests.
pub record RunView : Type 0 where
  pub nsid : ℕ
  pub keeper : Option ℕ
  pub rows : List (List RowEntry)
  pub keeping : List KeepEntry
  pub lanes : List (List Event)
  pub drain : List Event
  pub requests : List Asked

-- a lane's events, whatever room there is for more
abbrev pub events_of : NotesView → List Event
events_of notes = notes.events

-- what a run leaves
abbrev pub view_of : Run → RunView
view_of run = record {
  nsid = run.nsid;
  keeper = run.keeper;
  rows = run.rows;
  keeping = run.keeping;
  lanes = map events_of run.lanes;
  drain = run.drain.events;
  requests = map asked_of run.requests;
}

-- the event is no section
abbrev pub is_plain : Event → Bool
is_plain (Sec note moved) = false
is_plain (At line said) = true
is_plain (Try req hop end) = true
is_plain (Fin req hop statuses count back) = true

-- the entry is an order
abbrev pub is_order : KeepEntry → Bool
is_order (keep.Order e) = true
is_order (keep.Closing c) = false

-- the run without its sections and closings
abbrev pub without_notes : RunView → RunView
without_notes run =
    record run { keeping = filter is_order run.keeping; lanes = map (filter is_plain) run.lanes; drain = filter is_plain run.drain }

-- the run with its sections and closings, or without
abbrev pub noted : Bool → RunView → RunView
noted true run = run
noted false run = without_notes run
