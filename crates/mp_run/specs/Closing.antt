-- What a run leaves once its lanes, its drain and its list are closed.
use Rattle.std.specs.Prelude.{◌≡◌, List, ◌∷◌, ◌++◌, map, position}
use Rattle.std.specs.List.{enumerate_from, flat_map}
use Rattle.std.specs.List.Sorted.{IsPermutation}
use Rattle.mp_words.specs.declared.entry.RowEntry.{RowEntry}
use Rattle.mp_words.specs.declared.entry.KeepEntry.TheVariants as keep
use Rattle.mp_words.specs.Request.{asked_of}
use Rattle.mp_words.specs.RequestView.{RequestView}
use Rattle.mp_record.specs.declared.event.Event.{Event}
use Rattle.mp_record.specs.declared.run.Run.{Run}
use Rattle.mp_record.specs.RunView.{events_of}
use Rattle.mp_script.specs.declared.script.LanePlan.{LanePlan}
use Rattle.mp_lane.specs.LaneView.{LaneView}
use Rattle.mp_legal.specs.Opening.{first_order, opening, opening_entry}
use Rattle.mp_legal.specs.PlainCall.{Inputs}
use Rattle.mp_legal.specs.Gathering.{history, AreNumbered}
use Rattle.mp_legal.specs.ToldDesks.{told_events}
use Rattle.mp_legal.specs.ToldKeeper.{orders_in}
use Rattle.mp_run.specs.declared.runner.Runner.{Runner}

-- what a lane noted, without its sections
abbrev pub notes_at : LaneView → List Event
notes_at v = told_events v.desk.events

-- the entries of rows that a lane made
abbrev pub rows_at : LaneView → List RowEntry
rows_at v = v.desk.rows

-- the requests that ended at a lane
abbrev pub ended_at : LaneView → List RequestView
ended_at v = v.desk.ended

-- the entries of rows that lanes and the drain made
abbrev pub entries_of : Runner → List RowEntry
entries_of r = flat_map rows_at r.lanes.items ++ r.drain.rows.items

-- the requests that ended at a lane, that wait, and that ended in the drain
abbrev pub requests_of : Runner → List RequestView
requests_of r = flat_map ended_at r.lanes.items ++ (r.list ++ r.drain.ended.items)

-- The run has what lanes, the drain, the list and the keeper left: all notes but the sections; the lists of paths, that of
-- the opening first; each entry of a row in the history of its slot; and each request, by number.
pub record Gathers (i : Inputs) (plans : List LanePlan) (r : Runner) (run : Run) : Type 0 where
  pub nsid : run.nsid ≡ i.topology.nsid
  pub keeper : run.keeper ≡ position (λ plan. plan.keeper) plans
  pub rows : run.rows ≡ map (history (entries_of r)) (map opening_entry (enumerate_from 0 (opening i).rows))
  pub keeping : run.keeping ≡ map keep.Order (first_order i ∷ orders_in r.keeper.entries)
  pub lanes : map events_of run.lanes ≡ map notes_at r.lanes.items
  pub drain : run.drain.events ≡ told_events r.drain.notes.events
  pub numbered : AreNumbered (map asked_of run.requests)
  pub same : IsPermutation (requests_of r) run.requests
