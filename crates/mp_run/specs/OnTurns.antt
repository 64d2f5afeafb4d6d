-- Turns that are taken one by one, as far as they are paid for.
use Rattle.std.specs.Prelude.{[], ◌≡◌, ℕ, ◌<◌, List, ◌++◌, ◌∷◌, Option, slice_index_or}
use Rattle.std.specs.List.{flat_map}
use Rattle.mp_words.specs.declared.entry.RowEntry.{RowEntry}
use Rattle.mp_words.specs.declared.entry.OrderEntry.{OrderEntry}
use Rattle.mp_record.specs.declared.event.Event.{Event}
use Rattle.mp_legal.specs.PlainState.{State}
use Rattle.mp_legal.specs.PlainCall.{Inputs}
use Rattle.mp_legal.specs.PlainRun.{state_after, events_in}
use Rattle.mp_legal.specs.Turns.{Turn}
use Rattle.mp_legal.specs.Units.{Paying, pay_turns}

-- each turn is of one of so many lanes
abbrev pub AreTurnsOf : ℕ → List Turn → Type 0
AreTurnsOf lanes [] = Unit {0}
AreTurnsOf lanes (t ∷ turns) = (t.lane < lanes) × AreTurnsOf lanes turns

-- How far turns have come: the state, the units that each lane has left, the entries made, and what each lane noted.
pub record Stage : Type 0 where
  pub state : State
  pub lefts : List (Option ℕ)
  pub rows : List RowEntry
  pub orders : List OrderEntry
  pub lanes : List (List Event)

-- these turns from there
abbrev pub turns_from : Inputs → Stage → List Turn → Paying
turns_from i s turns = pay_turns i s.state s.lefts turns

-- What was made and noted so far, and the turns that are left, give what all turns give from the start.
pub record IsOn (i : Inputs) (all rest : List Turn) (start now : Stage) : Type 0 where
  pub state : state_after now.state (turns_from i now rest).taken ≡ state_after start.state (turns_from i start all).taken
  pub lefts : (turns_from i now rest).lefts ≡ (turns_from i start all).lefts
  pub rows : now.rows ++ flat_map (λ x. x.step.rows) (turns_from i now rest).taken ≡ start.rows ++ flat_map (λ x. x.step.rows) (turns_from i start all).taken
  pub orders : now.orders ++ flat_map (λ x. x.step.orders) (turns_from i now rest).taken ≡ start.orders ++ flat_map (λ x. x.step.orders) (turns_from i start all).taken
  pub noted : (lane : ℕ) → slice_index_or now.lanes lane [] ++ events_in (turns_from i now rest).taken lane ≡ slice_index_or start.lanes lane [] ++ events_in (turns_from i start all).taken lane
