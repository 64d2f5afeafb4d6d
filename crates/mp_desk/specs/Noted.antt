-- What a desk noted, as clauses see it, and what it keeps of it.
use Rattle.std.specs.Prelude.{ℕ, Bool, true, false, List, filter}
use Rattle.mp_record.specs.RunView.{is_plain}
use Rattle.mp_record.specs.declared.event.Event.{Event}

-- The events in order, for how many more there is room, and whether the sections are kept.
pub record NotedView : Type 0 where
  pub events : List Event
  pub spare : ℕ
  pub keeps : Bool

-- what is kept of these events: all, or all but the sections
abbrev pub kept_of : Bool → List Event → List Event
kept_of true events = events
kept_of false events = filter is_plain events
