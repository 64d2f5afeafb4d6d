-- What a step leaves and gives, and steps in a row.
use Rattle.std.specs.Prelude.{ℕ, List, [], ◌∷◌, ◌++◌}
use Rattle.mp_words.specs.declared.order.Order.{Order}
use Rattle.mp_words.specs.declared.op.Maker.{Maker}
use Rattle.mp_words.specs.declared.op.Maker.TheVariants.{Line}
use Rattle.mp_words.specs.declared.entry.RowEntry.{RowEntry}
use Rattle.mp_words.specs.declared.entry.OrderEntry.{OrderEntry}
use Rattle.mp_record.specs.declared.event.Event.{Event}
use Rattle.mp_record.specs.declared.event.Event.TheVariants.{At}
use Rattle.mp_record.specs.declared.event.Said.{Said}
use Rattle.mp_legal.specs.PlainState.{State, with_entry}

-- the state after a step, and the entries and events that it gives
pub record Stepped : Type 0 where
  pub state : State
  pub rows : List RowEntry
  pub orders : List OrderEntry
  pub events : List Event

-- a line of a lane
pub record Place : Type 0 where
  pub lane : ℕ
  pub line : ℕ

-- what the line makes has this maker
abbrev pub maker_of : Place → Maker
maker_of at = Line at.lane at.line

-- a step that makes no entry
abbrev pub tells : State → List Event → Stepped
tells s events = record { state = s; rows = []; orders = []; events = events }

-- a step that makes no entry, and says this
abbrev pub says : Place → State → Said → Stepped
says at s said = tells s (At at.line said ∷ [])

-- a step that makes one row entry
abbrev pub enters : State → RowEntry → Stepped
enters s entry = record { state = with_entry s entry; rows = entry ∷ []; orders = []; events = [] }

-- a step that stores this order
abbrev pub stores : Place → State → Order → Stepped
stores at s order = record {
  state = record s { order = order };
  rows = [];
  orders = record { order = order; by = maker_of at } ∷ [];
  events = [];
}

-- what the first step gives, and then the second, where that leads
abbrev pub joined : Stepped → Stepped → Stepped
joined first next = record {
  state = next.state;
  rows = first.rows ++ next.rows;
  orders = first.orders ++ next.orders;
  events = first.events ++ next.events;
}

-- a step, and then another from where it leads
abbrev pub and_then : Stepped → (State → Stepped) → Stepped
and_then first next = joined first (next first.state)

-- a step that makes one row entry, and says this
abbrev pub makes : Place → State → RowEntry → Said → Stepped
makes at s entry said = and_then (enters s entry) (λ t. says at t said)

-- the step for each item in turn
abbrev pub each : {X : Type 0} → (State → X → Stepped) → State → List X → Stepped
each step s [] = tells s []
each step s (x ∷ xs) = let first = step s x in joined first (each step first.state xs)
