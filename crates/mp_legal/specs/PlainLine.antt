-- One line of a lane, and a lane's end.
use Rattle.std.specs.Prelude.{slice_index_or, ℕ, ◌==◌, List, [], ◌∷◌, map, filter, length, Option, Some, None, Result, Ok, Err}
use Rattle.mp_words.specs.declared.op.Op.TheVariants as op
use Rattle.mp_words.specs.declared.flight.Flight.{Flight}
use Rattle.mp_words.specs.Request.{Asked}
use Rattle.mp_record.specs.declared.event.Event.TheVariants.{At}
use Rattle.mp_record.specs.declared.event.Said.{Said}
use Rattle.mp_record.specs.declared.event.Said.TheVariants as said
use Rattle.mp_page.specs.declared.page.Page.{Page}
use Rattle.mp_page.specs.declared.page.PageError.{PageError}
use Rattle.mp_page.specs.declared.page.PageError.TheVariants as refusal
use Rattle.mp_script.specs.declared.script.Line.{Line}
use Rattle.mp_script.specs.declared.script.Line.TheVariants as line
use Rattle.mp_script.specs.declared.script.Numbered1.{Numbered1}
use Rattle.mp_page.specs.Gifts.{page_at, gift_of, state_for, changing}
use Rattle.mp_legal.specs.PlainState.{State, with_new}
use Rattle.mp_legal.specs.PlainCall.{Inputs, Call, submit, finish, change, add, remove, set_policy, reap, call}
use Rattle.mp_legal.specs.Stepped.{Stepped, Place, tells, and_then, each}

-- How a line starts: the state, what it says before its calls, and the calls.
pub record Start : Type 0 where
  pub state : State
  pub said : List Said
  pub calls : List Call

-- a line of calls that speak for themselves
abbrev pub calls : State → List Call → Start
calls s cs = record { state = s; said = []; calls = cs }

-- these flights are finished, in the order sent
abbrev pub finishes : State → List Flight → Start
finishes s flights = record { state = s; said = said.Finish (length flights) ∷ []; calls = map finish flights }

-- the flights of a lane, in the order sent
abbrev pub flights_of : ℕ → State → List Flight
flights_of lane s = slice_index_or s.flights lane []

-- the flights of one request among these
abbrev pub flights_with : ℕ → List Flight → List Flight
flights_with req flights = filter (λ flight. flight.req == req) flights

-- what a line says of a refused page
abbrev pub page_said : PageError → Said
page_said (refusal.ShortHeader offset) = said.Page 1 offset
page_said (refusal.ShortDescriptor offset) = said.Page 2 offset
page_said (refusal.GroupZero offset) = said.Page 3 offset
page_said (refusal.GroupAbove offset) = said.Page 4 offset
page_said (refusal.StateBad offset) = said.Page 5 offset
page_said (refusal.ShortList offset) = said.Page 6 offset
page_said refusal.NoMemory = said.Page 7 0

-- the call that a page makes, or its refusal
abbrev pub by_page : State → Result Page PageError → (Page → Call) → Start
by_page s (Ok page) made = calls s (made page ∷ [])
by_page s (Err error) made = record { state = s; said = page_said error ∷ []; calls = [] }

-- a log page is read for a controller
abbrev pub reads_log : ℕ → ℕ → Page → Call
reads_log nsid ctrl page = change ctrl (op.Log (state_for page nsid) (changing page))

-- a new path of a controller, by its page if it has ANA
abbrev pub adds : Inputs → State → ℕ → Option ℕ → Start
adds i s ctrl None = calls s (add (gift_of i.topology.nsid ctrl None) ∷ [])
adds i s ctrl (Some box) = by_page s (page_at i.pages box) (λ page. add (gift_of i.topology.nsid ctrl (Some page)))

-- how a line of a lane starts
abbrev pub start_of : Inputs → ℕ → State → Line → Start
start_of i lane s (line.Submit req node) =
    let new : Asked = record { req = req; node = node; tries = [] } in
    record { state = record s { requests = with_new new s.requests }; said = said.Submit ∷ []; calls = submit req ∷ [] }
start_of i lane s (line.Finish req) = finishes s (flights_with req (flights_of lane s))
start_of i lane s line.FinishAll = finishes s (flights_of lane s)
start_of i lane s line.Requeue =
    record {
      state = record s { waiting = [] };
      said = said.Requeue (length s.waiting) ∷ [];
      calls = map submit s.waiting;
    }
start_of i lane s (line.Log ctrl box) = by_page s (page_at i.pages box) (reads_log i.topology.nsid ctrl)
start_of i lane s (line.Ctrl ctrl cstate) = calls s (change ctrl (op.Ctrl cstate) ∷ [])
start_of i lane s (line.Anatt ctrl) = calls s (change ctrl op.Expire ∷ [])
start_of i lane s (line.Add ctrl box) = adds i s ctrl box
start_of i lane s (line.Remove ctrl) = calls s (remove ctrl ∷ [])
start_of i lane s line.Reap = calls s (reap ∷ [])
start_of i lane s (line.Policy policy) = calls s (set_policy policy ∷ [])

-- a turn is one of the lane's lines, or its end, at which all its flights are finished
abbrev pub turn_start : Inputs → ℕ → State → Option Numbered1 → Start
turn_start i lane s (Some l) = start_of i lane s l.line
turn_start i lane s None = finishes s (flights_of lane s)

-- the place of a turn; the end of a lane is line 0
abbrev pub place_of : ℕ → Option Numbered1 → Place
place_of lane (Some l) = record { lane = lane; line = l.number }
place_of lane None = record { lane = lane; line = 0 }

-- what is said before the calls
abbrev pub opens : Place → Start → Stepped
opens at start = tells start.state (map (At at.line) start.said)

-- what is said, and then each call
abbrev pub runs : Inputs → Place → Start → Stepped
runs i at start = and_then (opens at start) (λ s. each (call i at) s start.calls)

-- a turn of a lane
abbrev pub turn_step : Inputs → ℕ → State → Option Numbered1 → Stepped
turn_step i lane s turn = runs i (place_of lane turn) (turn_start i lane s turn)
