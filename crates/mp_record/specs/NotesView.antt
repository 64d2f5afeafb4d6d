-- The events of a lane as clauses see them.
use Rattle.std.specs.Prelude.{ℕ, List}
use Rattle.mp_record.specs.declared.event.Event.{Event}

-- The events in order, and for how many more there is room.
pub record NotesView : Type 0 where
  pub events : List Event
  pub spare : ℕ
