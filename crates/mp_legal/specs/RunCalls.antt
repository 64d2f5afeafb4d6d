-- The calls that a run makes, one after another.
use Rattle.std.specs.Prelude.{ℕ, zero, suc, ◌==◌, List, [], ◌∷◌, ◌++◌, map, filter, Option, if◌then◌else◌}
use Rattle.std.specs.List.{list_any, flat_map}
use Rattle.mp_words.specs.declared.entry.OrderEntry.{OrderEntry}
use Rattle.mp_words.specs.declared.entry.RowEntry.{RowEntry}
use Rattle.mp_script.specs.declared.script.LanePlan.{LanePlan}
use Rattle.mp_script.specs.declared.script.Numbered1.{Numbered1}
use Rattle.mp_legal.specs.PlainState.{State}
use Rattle.mp_legal.specs.PlainCall.{Inputs, Call, submit, finish, reap, call}
use Rattle.mp_legal.specs.PlainLine.{turn_start, place_of, turn_step, flights_of}
use Rattle.mp_legal.specs.PlainRun.{taken, state_after}
use Rattle.mp_legal.specs.Stepped.{Stepped, Place}
use Rattle.mp_legal.specs.Opening.{opening}
use Rattle.mp_legal.specs.Turns.{Turn, turns_of}
use Rattle.mp_legal.specs.Drain.{drain_place, is_sent, round, most_rounds, reaps, sends_and_finishes}

-- A call that a lane made: the state before it, and its step.
pub record Called : Type 0 where
  pub lane : ℕ
  pub done : Call
  pub before : State
  pub step : Stepped

-- the call, made here
abbrev pub called : Inputs → Place → State → Call → Called
called i at s c = record { lane = at.lane; done = c; before = s; step = call i at s c }

-- these calls, each made where the one before it left
abbrev pub calls_made : Inputs → Place → State → List Call → List Called
calls_made i at s [] = []
calls_made i at s (c ∷ cs) = called i at s c ∷ calls_made i at (call i at s c).state cs

-- the calls of a turn
abbrev pub turn_calls : Inputs → ℕ → State → Option Numbered1 → List Called
turn_calls i lane s turn =
    calls_made i (place_of lane turn) (turn_start i lane s turn).state (turn_start i lane s turn).calls

-- the calls of these turns
abbrev pub turns_calls : Inputs → State → List Turn → List Called
turns_calls i s [] = []
turns_calls i s (t ∷ ts) = turn_calls i t.lane s t.line ++ turns_calls i (turn_step i t.lane s t.line).state ts

-- a request of the drain: its submit, and its finish if it was sent
abbrev pub request_calls : Inputs → State → ℕ → List Called
request_calls i s req =
    let t : State = (call i drain_place s (submit req)).state in
    called i drain_place s (submit req) ∷ calls_made i drain_place t (map finish (flights_of 16 t))

-- the requests of a round of the drain
abbrev pub requests_calls : Inputs → State → List ℕ → List Called
requests_calls i s [] = []
requests_calls i s (req ∷ requests) =
    request_calls i s req ++ requests_calls i (sends_and_finishes i s req).state requests

-- the calls of a round of the drain
abbrev pub round_calls : Inputs → State → List Called
round_calls i s = requests_calls i (record s { waiting = [] }) s.waiting

-- the calls of the round from here and of those after it, at most so many; the first that sends nothing is the last
abbrev pub rounds_calls : Inputs → ℕ → State → List Called
rounds_calls i zero s = round_calls i s
rounds_calls i (suc n) s =
    round_calls i s ++ (if list_any is_sent (round i s).events then rounds_calls i n (round i s).state else [])

-- the calls of the drain: the reaps, and then the rounds
abbrev pub drain_calls : Inputs → State → List Called
drain_calls i s =
    calls_made i drain_place s (map (λ slot. reap) s.removals)
    ++ rounds_calls i (most_rounds i (reaps s).state) (reaps s).state

-- all calls of a run: those of its turns, and those of its drain
abbrev pub run_calls : Inputs → List LanePlan → List Called
run_calls i lanes =
    turns_calls i (opening i) (turns_of lanes)
    ++ drain_calls i (state_after (opening i) (taken i (opening i) (turns_of lanes)))

-- the row entries that calls make, in order
abbrev pub rows_made : List Called → List RowEntry
rows_made calls = flat_map (λ c. c.step.rows) calls

-- the order entries that calls make, in order
abbrev pub orders_made : List Called → List OrderEntry
orders_made calls = flat_map (λ c. c.step.orders) calls

-- the calls of one lane
abbrev pub calls_by : ℕ → List Called → List Called
calls_by lane calls = filter (λ c. c.lane == lane) calls
