-- The plain state that the words of a table stand for, with what a run has beside them.
use Rattle.std.specs.Prelude.{◌≡◌, ℕ, ◌<◌, List, [], length, replicate, Option, None, Some, slice_index_or}
use Rattle.mp_words.specs.declared.row.Policy.{Policy}
use Rattle.mp_words.specs.declared.row.Policy.TheVariants.{Numa, RoundRobin, QueueDepth}
use Rattle.mp_words.specs.declared.flight.Flight.{Flight}
use Rattle.mp_words.specs.Request.{Asked}
use Rattle.mp_core.specs.Core.{Core}
use Rattle.mp_core.specs.Memory.{Memory, depth_at}
use Rattle.mp_legal.specs.PlainState.{State, depth_of}
use Rattle.mp_legal.specs.TryRead.{TryRead}

-- What a run has beside the words: the flights of each lane in the order sent, the waiting requests, the slots under
-- removal, the number of flips, the requests by number, and what each try read.
pub record Beside : Type 0 where
  pub flights : List (List Flight)
  pub waiting : List ℕ
  pub removals : List ℕ
  pub flips : ℕ
  pub requests : List Asked
  pub reads : List (ℕ × TryRead)

-- the last choices: under round robin the current words; the other policies make none, whatever the words keep
abbrev pub lasts_by : Policy → List (Option ℕ) → List (Option ℕ)
lasts_by RoundRobin currents = currents
lasts_by Numa currents = replicate 8 None
lasts_by QueueDepth currents = replicate 8 None

-- the plain state of these words
abbrev pub state_in : Memory → Beside → State
state_in m x = record {
  rows = m.rows;
  order = m.order;
  lasts = lasts_by m.order.policy m.currents;
  flights = x.flights;
  waiting = x.waiting;
  removals = x.removals;
  flips = x.flips;
  requests = x.requests;
  reads = x.reads;
}

-- A pass that stands between two calls of a run: its words are these, of the sizes that a table has, no section is open,
-- its flights are those that the run has of its lane, and the depth of each slot is the number of all flights on it.
pub record IsAt (c : Core) (m : Memory) (x : Beside) : Type 0 where
  pub told : c.told ≡ Some m
  pub rows : length m.rows ≡ 15
  pub depths : length m.depths ≡ 15
  pub currents : length m.currents ≡ 8
  pub lanes : length x.flights ≡ 17
  pub lane : c.lane < 17
  pub closed : c.view.inside ≡ None
  pub flights : c.view.flights ≡ slice_index_or x.flights c.lane []
  pub counted : (slot : ℕ) → depth_at m slot ≡ depth_of (state_in m x) slot
