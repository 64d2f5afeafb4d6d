-- The calls that lines are made of.
use Rattle.std.specs.Prelude.{ℕ, List, map, Result}
use Rattle.mp_words.specs.declared.row.Policy.{Policy}
use Rattle.mp_words.specs.declared.op.Gift.{Gift}
use Rattle.mp_words.specs.declared.op.Op.{Op}
use Rattle.mp_words.specs.declared.flight.Flight.{Flight}
use Rattle.mp_page.specs.declared.page.Page.{Page}
use Rattle.mp_page.specs.declared.page.PageError.{PageError}
use Rattle.mp_words.specs.declared.answers.Answer.{Answer}
use Rattle.mp_script.specs.declared.script.Script.{Script}
use Rattle.mp_script.specs.declared.script.World.{World}
use Rattle.mp_topology.specs.declared.topology.Topology.{Topology}
use Rattle.mp_legal.specs.PlainState.{State}
use Rattle.mp_legal.specs.PlainSubmit.{submitted}
use Rattle.mp_legal.specs.PlainFinish.{finished}
use Rattle.mp_legal.specs.PlainChange.{changed}
use Rattle.mp_legal.specs.PlainKeep.{added, removed, policy_set, reaped}
use Rattle.mp_legal.specs.Stepped.{Stepped, Place}

-- The topology, the page of each box or why it has none, and the scripted statuses.
pub record Inputs : Type 0 where
  pub topology : Topology
  pub pages : List (Result Page PageError)
  pub answers : List Answer

-- one thing that a lane does
pub data Call : Type 0 where
  submit : ℕ → Call
  finish : Flight → Call
  change : ℕ → Op → Call
  add : Gift → Call
  remove : ℕ → Call
  set_policy : Policy → Call
  reap : Call

-- what a call of a line does
abbrev pub call : Inputs → Place → State → Call → Stepped
call i at s (submit req) = submitted i.topology.near at.lane s req
call i at s (finish flight) = finished i.answers at.lane s flight
call i at s (change ctrl op) = changed at s ctrl op
call i at s (add gift) = added at s gift
call i at s (remove ctrl) = removed at s ctrl
call i at s (set_policy policy) = policy_set at s policy
call i at s reap = reaped at s

-- the inputs of a world and a script, by what reads a page under a bound
abbrev pub inputs_by : (ℕ → List ℕ → Result Page PageError) → World → Script → Inputs
inputs_by read world script =
    record { topology = world.topology; pages = map (read world.topology.anagrpmax) world.pages; answers = script.answers }
