-- The run of a script on one thread: the opening, the lanes by turns, and the drain.
use Rattle.std.specs.Prelude.{ℕ, ◌==◌, List, [], ◌∷◌, ◌++◌, map, filter, length, position, fold}
use Rattle.std.specs.List.{enumerate_from, range_with_len, flat_map}
use Rattle.mp_words.specs.declared.entry.RowEntry.{RowEntry}
use Rattle.mp_words.specs.declared.entry.KeepEntry.TheVariants as keep
use Rattle.mp_record.specs.declared.event.Event.{Event}
use Rattle.mp_script.specs.declared.script.LanePlan.{LanePlan}
use Rattle.mp_script.specs.declared.script.Script.{Script}
use Rattle.mp_script.specs.declared.script.World.{World}
use Rattle.mp_page.specs.Page.{page_in}
use Rattle.mp_record.specs.RunView.{RunView}
use Rattle.mp_legal.specs.PlainState.{State}
use Rattle.mp_legal.specs.TryRead.{TryRead}
use Rattle.mp_legal.specs.PlainLine.{turn_step}
use Rattle.mp_legal.specs.PlainCall.{Inputs, inputs_by}
use Rattle.mp_legal.specs.Stepped.{Stepped}
use Rattle.mp_legal.specs.Opening.{opening, opening_entry, first_order}
use Rattle.mp_legal.specs.Turns.{Turn, turns_of}
use Rattle.mp_legal.specs.Drain.{drain}

-- a turn that was taken
pub record Taken : Type 0 where
  pub lane : ℕ
  pub step : Stepped

-- the turns, each taken where the one before it left
abbrev pub taken : Inputs → State → List Turn → List Taken
taken i s [] = []
taken i s (t ∷ ts) =
    let first = turn_step i t.lane s t.line in
    record { lane = t.lane; step = first } ∷ taken i first.state ts

-- the state after these turns
abbrev pub state_after : State → List Taken → State
state_after s ts = fold (λ before t. t.step.state) s ts

-- the events of one lane
abbrev pub events_in : List Taken → ℕ → List Event
events_in ts lane = flat_map (λ t. t.step.events) (filter (λ t. t.lane == lane) ts)

-- all row entries of a slot: that of the opening, and then those made
abbrev pub rows_in : List RowEntry → RowEntry → List RowEntry
rows_in made first = first ∷ filter (λ e. e.slot == first.slot) made

-- the run of these turns and of the drain behind them
abbrev pub run_of : Inputs → List LanePlan → List Taken → Stepped → RunView
run_of i lanes ts last = record {
  nsid = i.topology.nsid;
  keeper = position (λ lane. lane.keeper) lanes;
  rows = map (rows_in (flat_map (λ t. t.step.rows) ts ++ last.rows)) (map opening_entry (enumerate_from 0 (opening i).rows));
  keeping = map keep.Order (first_order i ∷ flat_map (λ t. t.step.orders) ts ++ last.orders);
  lanes = map (events_in ts) (range_with_len 0 (length lanes));
  drain = last.events;
  requests = last.state.requests;
}

-- the run of a script's lanes
abbrev pub plain_run : Inputs → List LanePlan → RunView
plain_run i lanes =
    let ts = taken i (opening i) (turns_of lanes) in
    run_of i lanes ts (drain i (state_after (opening i) ts))

-- the state that is left once the lanes have ended and the drain is done
abbrev pub state_left : Inputs → List LanePlan → State
state_left i lanes = (drain i (state_after (opening i) (taken i (opening i) (turns_of lanes)))).state

-- the run of a script over a world
unfoldable pub run_over : World → Script → RunView
run_over world script = plain_run (inputs_by page_in world script) script.lanes

-- what each try of the run of a script over a world read, with its request's number, in the order of the tries
unfoldable pub reads_over : World → Script → List (ℕ × TryRead)
reads_over world script = (state_left (inputs_by page_in world script) script.lanes).reads
