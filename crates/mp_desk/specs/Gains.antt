-- What a pass gains by the calls of its desk, and what was noted of it.
use Rattle.std.specs.Prelude.{◌≡◌, ◌+◌, List, [], ◌∷◌, ◌++◌, length}
use Rattle.mp_words.specs.declared.entry.RowEntry.{RowEntry}
use Rattle.mp_words.specs.declared.note.Note.{Note}
use Rattle.mp_record.specs.declared.event.Event.{Event}
use Rattle.mp_record.specs.declared.event.Event.TheVariants as event
use Rattle.mp_desk.specs.Calls.{Stand}

-- the notes of the sections among these events, in order
abbrev pub sections_in : List Event → List Note
sections_in [] = []
sections_in (event.Sec n moved ∷ events) = n ∷ sections_in events
sections_in (event.At line said ∷ events) = sections_in events
sections_in (event.Try req hop end ∷ events) = sections_in events
sections_in (event.Fin req hop statuses count back ∷ events) = sections_in events

-- What the pass gained is what was noted: the sections that it finished are those of the events that were added, and
-- the entries of rows that it made are those that were kept.
pub record Gains (p q : Stand) : Type 0 where
  pub events : List Event
  pub noted : q.desk.events ≡ p.desk.events ++ events
  pub sections : q.core.view.done ≡ p.core.view.done ++ sections_in events
  pub rows : List RowEntry
  pub kept : q.desk.rows ≡ p.desk.rows ++ rows
  pub made : q.core.view.entries ≡ p.core.view.entries ++ rows

-- The units that were used are as many as the sections that were added.
pub record UsesSections (p q : Stand) : Type 0 where
  pub events : List Event
  pub noted : q.desk.events ≡ p.desk.events ++ events
  pub used : q.core.view.left + length (sections_in events) ≡ p.core.view.left
