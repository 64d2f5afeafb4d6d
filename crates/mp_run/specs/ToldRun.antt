-- The run that lanes and the drain told, without its sections and closings.
use Rattle.std.specs.Prelude.{◌∷◌, List, map, position}
use Rattle.std.specs.List.{enumerate_from}
use Rattle.mp_words.specs.declared.entry.KeepEntry.TheVariants as keep
use Rattle.mp_record.specs.RunView.{RunView}
use Rattle.mp_script.specs.declared.script.LanePlan.{LanePlan}
use Rattle.mp_legal.specs.Opening.{first_order, opening, opening_entry}
use Rattle.mp_legal.specs.PlainCall.{Inputs}
use Rattle.mp_legal.specs.PlainRun.{rows_in}
use Rattle.mp_legal.specs.ToldDesks.{told_events}
use Rattle.mp_legal.specs.ToldKeeper.{orders_in}
use Rattle.mp_run.specs.declared.runner.Runner.{Runner}
use Rattle.mp_run.specs.Runner.{told_by, Story}

-- the run of what was made and told in this story, without sections and closings
abbrev pub told_run : Inputs → List LanePlan → Runner → Story → RunView
told_run i plans r s = record {
  nsid = i.topology.nsid;
  keeper = position (λ plan. plan.keeper) plans;
  rows = map (rows_in s.rows) (map opening_entry (enumerate_from 0 (opening i).rows));
  keeping = map keep.Order (first_order i ∷ orders_in r.keeper.entries);
  lanes = told_by r;
  drain = told_events r.drain.notes.events;
  requests = s.beside.requests;
}
