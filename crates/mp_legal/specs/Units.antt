-- The units that calls need and use, and which lanes are spent.
use Rattle.std.specs.Prelude.{ℕ, zero, suc, ◌+◌, ◌-◌, Bool, true, false, nat_lt, List, [], ◌∷◌, map, length, replicate, count_by, position, slice_index_or, slice_set, is_none, Option, Some, None, Result, Ok, Err, if◌then◌else◌}
use Rattle.std.specs.List.{list_any}
use Rattle.mp_record.specs.declared.event.Event.{Event}
use Rattle.mp_record.specs.declared.event.Event.TheVariants.{Sec, At, Try, Fin}
use Rattle.mp_record.specs.declared.event.Said.TheVariants as said
use Rattle.mp_script.specs.declared.script.Numbered1.{Numbered1}
use Rattle.mp_script.specs.declared.script.LanePlan.{LanePlan}
use Rattle.mp_legal.specs.PlainState.{State}
use Rattle.mp_legal.specs.PlainCall.{Inputs, Call, submit, finish, change, add, remove, set_policy, reap, call}
use Rattle.mp_legal.specs.PlainLine.{Start, turn_start, place_of, opens, flights_of}
use Rattle.mp_legal.specs.Stepped.{Stepped, Place, tells, says, joined}
use Rattle.mp_legal.specs.Opening.{opening}
use Rattle.mp_legal.specs.Turns.{Turn, turns_of}
use Rattle.mp_legal.specs.Drain.{drain_place, is_sent, most_rounds}
use Rattle.mp_record.specs.RunView.{RunView}
use Rattle.mp_script.specs.declared.script.Script.{Script}
use Rattle.mp_script.specs.declared.script.World.{World}
use Rattle.mp_legal.specs.Inputs.{inputs_for}
use Rattle.mp_legal.specs.PlainRun.{Taken, state_after, run_of}

-- how many units a call needs
abbrev pub needs : Call → ℕ
needs (submit req) = 1
needs (finish flight) = 1
needs (change ctrl op) = 1
needs (add gift) = 2
needs (remove ctrl) = 1
needs (set_policy policy) = 1
needs reap = 16

-- the event is a finish that came back
abbrev pub came_back : Event → Bool
came_back (Fin req hop statuses count (Some back)) = true
came_back (Fin req hop statuses count None) = false
came_back (Try req hop end) = false
came_back (At line said) = false
came_back (Sec note moved) = false

-- How many units a call used: one for its section, and for the keeper's calls one for each entry.
abbrev pub uses : Call → Stepped → ℕ
uses (submit req) step = 1
uses (finish flight) step = count_by came_back step.events
uses (change ctrl op) step = 1
uses (add gift) step = length step.rows + length step.orders
uses (remove ctrl) step = length step.rows + length step.orders
uses (set_policy policy) step = length step.rows + length step.orders
uses reap step = length step.rows + length step.orders

-- what was paid for, and the units left, or none where the next call could not be paid
pub record Paid : Type 0 where
  pub step : Stepped
  pub left : Option ℕ

-- what was paid for, and then more, where units are left
abbrev pub paid_then : Paid → (State → ℕ → Paid) → Paid
paid_then p next = goes_on p.left
  where
    with_more : Paid → Paid
    with_more more = record { step = joined p.step more.step; left = more.left }

    goes_on : Option ℕ → Paid
    goes_on None = p
    goes_on (Some left) = with_more (next p.step.state left)

-- each item in turn, as long as each can be paid
abbrev pub each_paid : {X : Type 0} → (State → ℕ → X → Paid) → State → ℕ → List X → Paid
each_paid pay s left [] = record { step = tells s []; left = Some left }
each_paid pay s left (x ∷ xs) = paid_then (pay s left x) (λ t rest. each_paid pay t rest xs)

-- a step that needs and uses so many units, if it can be paid
abbrev pub paid_if : ℕ → ℕ → Stepped → State → ℕ → Paid
paid_if needed used step s left =
    let paid : Paid = record { step = step; left = Some (left - used) } in
    if nat_lt left needed then record { step = tells s []; left = None } else paid

-- one call, if it can be paid
abbrev pub pay_call : Inputs → Place → State → ℕ → Call → Paid
pay_call i at s left c = paid_if (needs c) (uses c (call i at s c)) (call i at s c) s left

-- the flights of a spent lane are ended
abbrev pub settled : ℕ → Paid → Paid
settled lane p = by_left p.left
  where
    by_left : Option ℕ → Paid
    by_left (Some left) = p
    by_left None =
        let ended : State = record (p.step.state) { flights = slice_set p.step.state.flights lane [] } in
        record { step = record (p.step) { state = ended }; left = None }

-- what is said, and then each call that can be paid
abbrev pub pay_line : Inputs → Place → ℕ → Start → Paid
pay_line i at left start =
    paid_then (record { step = opens at start; left = Some left })
    (λ s rest. each_paid (pay_call i at) s rest start.calls)

-- a turn of a lane; a spent lane takes none
abbrev pub pay_turn : Inputs → ℕ → State → Option Numbered1 → Option ℕ → Paid
pay_turn i lane s turn None = record { step = tells s []; left = None }
pay_turn i lane s turn (Some left) = settled lane (pay_line i (place_of lane turn) left (turn_start i lane s turn))

-- turns that were taken, and what each lane has left
pub record Paying : Type 0 where
  pub taken : List Taken
  pub lefts : List (Option ℕ)

-- the turns, each taken where the one before it left
abbrev pub pay_turns : Inputs → State → List (Option ℕ) → List Turn → Paying
pay_turns i s lefts [] = record { taken = []; lefts = lefts }
pay_turns i s lefts (t ∷ ts) =
    let p = pay_turn i t.lane s t.line (slice_index_or lefts t.lane None) in
    let rest = pay_turns i p.step.state (slice_set lefts t.lane p.left) ts in
    record { taken = record { lane = t.lane; step = p.step } ∷ rest.taken; lefts = rest.lefts }

-- a request of the drain is submitted, and finished at once if it was sent
abbrev pub pay_request : Inputs → State → ℕ → ℕ → Paid
pay_request i s left req =
    paid_then (pay_call i drain_place s left (submit req))
    (λ t rest. each_paid (pay_call i drain_place) t rest (map finish (flights_of 16 t)))

-- one round of the drain
abbrev pub pay_round : Inputs → State → ℕ → Paid
pay_round i s left =
    let opened : Stepped = says drain_place (record s { waiting = [] }) (said.Requeue (length s.waiting)) in
    paid_then (record { step = opened; left = Some left })
    (λ t rest. each_paid (pay_request i) t rest s.waiting)

-- this round and those after it; the first that sends nothing is the last
abbrev pub pay_rounds : Inputs → ℕ → Paid → Paid
pay_rounds i zero first = first
pay_rounds i (suc n) first =
    let more = paid_then first (λ s left. pay_rounds i n (pay_round i s left)) in
    if list_any is_sent first.step.events then more else first

-- the drain, with an allowance of its own
abbrev pub pay_drain : Inputs → State → ℕ → Paid
pay_drain i s left =
    paid_then (each_paid (pay_call i drain_place) s left (map (λ slot. reap) s.removals))
    (λ t rest. pay_rounds i (most_rounds i t) (pay_round i t rest))

-- the run of the turns that were taken and of the drain, or lane 16 where the drain is spent
abbrev pub run_drained : Inputs → List LanePlan → List Taken → Stepped → Option ℕ → Result RunView ℕ
run_drained i lanes ts last None = Err 16
run_drained i lanes ts last (Some left) = Ok (run_of i lanes ts last)

-- the drain behind the turns, where no lane is spent, or the first lane that is
abbrev pub run_paid : ℕ → Inputs → List LanePlan → List Taken → Option ℕ → Result RunView ℕ
run_paid allowance i lanes ts (Some lane) = Err lane
run_paid allowance i lanes ts None =
    let p = pay_drain i (state_after (opening i) ts) allowance in run_drained i lanes ts p.step p.left

-- the run with an allowance of units for each lane and for the drain, or the least lane that is spent
abbrev pub serial_run : ℕ → Inputs → List LanePlan → Result RunView ℕ
serial_run allowance i lanes =
    let ts = pay_turns i (opening i) (replicate (length lanes) (Some allowance)) (turns_of lanes) in
    run_paid allowance i lanes ts.taken (position is_none ts.lefts)

-- the run of a script over a world with an allowance of units for each lane and for the drain, or the least lane that is
-- spent
unfoldable pub serial_over : ℕ → World → Script → Result RunView ℕ
serial_over allowance world script = serial_run allowance (inputs_for world script) script.lanes
