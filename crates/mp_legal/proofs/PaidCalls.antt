-- Calls that can be paid are what is done without units.
use Rattle.std.proofs.Common.{◌≡◌, ℕ, zero, suc, ◌+◌, ◌-◌, ◌<◌, ◌≤◌, ◌==◌, not, Bool, true, false, List, [], ◌∷◌, ◌++◌, inl, inr, length, map, replicate, get_or, set, cond, Option, Some, None, Ok, refl, sym, ap, ◌∙◌, subst, arith, if◌then◌else◌}
use Rattle.std.specs.Prelude.{position, is_none, slice_get}
use Rattle.std.specs.List.{list_any, flat_map, range_with_len, enumerate_from, position_or_len, prefix_len}
use Rattle.std.proofs.lemmas.Bool.{cases_Bool, eqb-true, eqb-false, eq-eqb, le-ltb}
use Rattle.std.proofs.lemmas.List.{get_or-set_same, get_or-set_other, length-set, length-replicate}
use Rattle.std.proofs.lemmas.List.Elements.{filter-append}
use Rattle.std.proofs.lemmas.List.Sums.{sum_by-cons}
use Rattle.mp_record.specs.declared.event.Said.TheVariants as said
use Rattle.mp_script.specs.declared.script.LanePlan.{LanePlan}
use Rattle.mp_script.specs.declared.script.Numbered1.{Numbered1}
use Rattle.mp_legal.specs.PlainState.{State}
use Rattle.mp_legal.specs.PlainCall.{Inputs, Call, submit, finish, change, add, remove, set_policy, reap, call}
use Rattle.mp_legal.specs.PlainLine.{Start, turn_start, place_of, turn_step, opens, flights_of}
use Rattle.mp_legal.specs.PlainRun.{Taken, taken, state_after, plain_run}
use Rattle.mp_legal.specs.Stepped.{Stepped, Place, tells, says, joined, each}
use Rattle.mp_legal.specs.Opening.{opening}
use Rattle.mp_legal.specs.Turns.{Turn, turn_in, line_turn, round_of, longest, turns_of}
use Rattle.mp_legal.specs.Drain.{drain_place, is_sent, round, rounds_from, most_rounds, reaps, sends_and_finishes, drain}
use Rattle.mp_legal.specs.Units.{needs, uses, Paid, paid_then, each_paid, pay_call, settled, pay_turn, Paying, pay_turns, pay_request, pay_round, pay_rounds, pay_drain, run_drained, run_paid, serial_run}
use Rattle.mp_legal.specs.RunCalls.{Called, called, calls_made, turn_calls, turns_calls, request_calls, requests_calls, round_calls, rounds_calls, drain_calls, run_calls, calls_by}
use Rattle.mp_legal.specs.Enough.{CanPay, units_used}
use Rattle.mp_legal.proofs.MadeCalls.{reaps_same}

-- the units that are left behind calls
abbrev pub left_behind : ℕ → List Called → ℕ
left_behind left [] = left
left_behind left (c ∷ cs) = left_behind (left - uses c.done c.step) cs

pub pay-append : (left : ℕ) (xs ys : List Called) → CanPay left (xs ++ ys)
    → CanPay left xs × CanPay (left_behind left xs) ys
pay-append left [] ys can = (tt, can)
pay-append left (x ∷ xs) ys can = let rest = pay-append (left - uses x.done x.step) xs ys can.1 in
    ((can.0, rest.0), rest.1)

left-append : (left : ℕ) (xs ys : List Called) → left_behind left (xs ++ ys) ≡ left_behind (left_behind left xs) ys
left-append left [] ys = refl
left-append left (x ∷ xs) ys = left-append (left - uses x.done x.step) xs ys

-- What was paid for is this step, and so many units are left.
abbrev pub PaysAll : Paid → Stepped → ℕ → Type 0
PaysAll p step left = p ≡ record { step = step; left = Some left }

pub pays_call : (i : Inputs) (at : Place) (s : State) (left : ℕ) (c : Call) → needs c ≤ left
    → PaysAll (pay_call i at s left c) (call i at s c) (left - uses c (call i at s c))
pays_call i at s left c le =
    ap
    (λ (b : Bool). if b then record { step = tells s []; left = None } else record { step = call i at s c; left = Some (left - uses c (call i at s c)) })
    (le-ltb left (needs c) le)

pays_then : (p : Paid) (step : Stepped) (mid : ℕ) (next : State → ℕ → Paid) (more : Stepped) (left : ℕ)
    → PaysAll p step mid → PaysAll (next step.state mid) more left → PaysAll (paid_then p next) (joined step more) left
pays_then p step mid next more left one two =
    ap (λ (q : Paid). paid_then q next) one ∙ ap (λ (q : Paid). record { step = joined step q.step; left = q.left }) two

pub pays_calls : (i : Inputs) (at : Place) (s : State) (left : ℕ) (cs : List Call) → CanPay left (calls_made i at s cs)
    → PaysAll (each_paid (pay_call i at) s left cs) (each (call i at) s cs) (left_behind left (calls_made i at s cs))
pays_calls i at s left [] can = refl
pays_calls i at s left (c ∷ cs) can =
    let t : State = (call i at s c).state in
    let mid : ℕ = left - uses c (call i at s c) in
    pays_then (pay_call i at s left c) (call i at s c) mid (λ t rest. each_paid (pay_call i at) t rest cs)
    (each (call i at) t cs) (left_behind mid (calls_made i at t cs)) (pays_call i at s left c can.0)
    (pays_calls i at t mid cs can.1)

pub pays_turn : (i : Inputs) (lane : ℕ) (s : State) (turn : Option Numbered1) (left : ℕ)
    → CanPay left (turn_calls i lane s turn)
    → PaysAll (pay_turn i lane s turn (Some left)) (turn_step i lane s turn) (left_behind left (turn_calls i lane s turn))
pays_turn i lane s turn left can =
    let at : Place = place_of lane turn in
    let start : Start = turn_start i lane s turn in
    let rest : ℕ = left_behind left (calls_made i at start.state start.calls) in
    ap (settled lane) (pays_then (record { step = opens at start; left = Some left }) (opens at start) left (λ t more. each_paid (pay_call i at) t more start.calls) (each (call i at) start.state start.calls) rest refl
    (pays_calls i at start.state left start.calls can))

-- ---- the turns

lane_of_calls : (i : Inputs) (at : Place) (s : State) (cs : List Call)
    → calls_by at.lane (calls_made i at s cs) ≡ calls_made i at s cs
lane_of_calls i at s [] = refl
lane_of_calls i at s (c ∷ cs) =
    let rest = lane_of_calls i at (call i at s c).state cs in
    (λ j. cond (eq-eqb at.lane at.lane refl j) (called i at s c ∷ calls_by at.lane (calls_made i at (call i at s c).state cs)) (calls_by at.lane (calls_made i at (call i at s c).state cs)))
    ∙ ap (λ (xs : List Called). called i at s c ∷ xs) rest

other_calls : (i : Inputs) (at : Place) (s : State) (lane : ℕ) (cs : List Call) → (at.lane == lane) ≡ false
    → calls_by lane (calls_made i at s cs) ≡ []
other_calls i at s lane [] off = refl
other_calls i at s lane (c ∷ cs) off =
    let rest = other_calls i at (call i at s c).state lane cs off in
    λ j. cond (off j) (called i at s c ∷ calls_by lane (calls_made i at (call i at s c).state cs)) (rest j)

place_lane : (lane : ℕ) (turn : Option Numbered1) → (place_of lane turn).lane ≡ lane
place_lane lane None = refl
place_lane lane (Some l) = refl

pub turn_own : (i : Inputs) (lane : ℕ) (s : State) (turn : Option Numbered1)
    → calls_by lane (turn_calls i lane s turn) ≡ turn_calls i lane s turn
turn_own i lane s turn =
    let start : Start = turn_start i lane s turn in
    ap (λ n. calls_by n (turn_calls i lane s turn)) (sym (place_lane lane turn)) ∙ lane_of_calls i (place_of lane turn)
    start.state start.calls

pub turn_other : (i : Inputs) (lane l : ℕ) (s : State) (turn : Option Numbered1) → (lane == l) ≡ false
    → calls_by l (turn_calls i lane s turn) ≡ []
turn_other i lane l s turn off =
    let start : Start = turn_start i lane s turn in
    other_calls i (place_of lane turn) start.state l start.calls (ap (λ n. n == l) (place_lane lane turn) ∙ off)

-- each turn is of one of so many lanes
abbrev pub AreOfLanes : ℕ → List Turn → Type 0
AreOfLanes lanes [] = Unit {0}
AreOfLanes lanes (t ∷ turns) = (t.lane < lanes) × AreOfLanes lanes turns

-- What the lanes have left pays for the calls that are still to come.
abbrev pub CanPayAll : List (Option ℕ) → List Called → Type 0
CanPayAll lefts cs =
    (lane : ℕ) → lane < length lefts → (left : ℕ) × (get_or lefts lane None ≡ Some left) × CanPay left (calls_by lane cs)

no_none : (lefts : List (Option ℕ))
    → ((lane : ℕ) → lane < length lefts → (left : ℕ) × (get_or lefts lane None ≡ Some left))
    → prefix_len (λ x. not (is_none x)) lefts ≡ length lefts
no_none [] all = refl
no_none (None ∷ lefts) all = let it = all 0 (omega arith) in absurd (never it.0 it.1)
  where
    never : (n : ℕ) → None ≡ Some n → ⊥
    never n e = cc
no_none (Some x ∷ lefts) all = let rest = no_none lefts (λ lane lt. all (suc lane) (omega arith)) in omega (arith, rest)

pub pays_turns : (i : Inputs) (s : State) (lefts : List (Option ℕ)) (ts : List Turn) → AreOfLanes (length lefts) ts
    → CanPayAll lefts (turns_calls i s ts)
    → ((pay_turns i s lefts ts).taken ≡ taken i s ts) × (prefix_len (λ x. not (is_none x)) (pay_turns i s lefts ts).lefts ≡ length (pay_turns i s lefts ts).lefts)
pays_turns i s lefts [] of can = (refl, no_none lefts (λ lane lt. let it = can lane lt in (it.0, it.1)))
pays_turns i s lefts (t ∷ ts) of can =
    let own = can t.lane of.0 in
    let u : State = (turn_step i t.lane s t.line).state in
    let here : List Called = turn_calls i t.lane s t.line in
    let later : List Called = turns_calls i u ts in
    let split : (lane : ℕ) → calls_by lane (here ++ later) ≡ calls_by lane here ++ calls_by lane later =
    λ lane. filter-append (λ (c : Called). c.lane == lane) here later in
    let parts =
    pay-append own.0 here (calls_by t.lane later)
    (subst (CanPay own.0) (split t.lane ∙ ap (λ (xs : List Called). xs ++ calls_by t.lane later) (turn_own i t.lane s t.line)) own.2) in
    let after : ℕ = left_behind own.0 here in
    let paid : pay_turn i t.lane s t.line (get_or lefts t.lane None) ≡ record
    { step = turn_step i t.lane s t.line; left = Some after } =
    ap (pay_turn i t.lane s t.line) own.1 ∙ pays_turn i t.lane s t.line own.0 parts.0 in
    let now : List (Option ℕ) = set lefts t.lane (Some after) in
    let can_now : CanPayAll now later = λ lane lt. elim (cases_Bool (lane == t.lane)) [
      | inl on ↦ let same : lane ≡ t.lane = eqb-true lane t.lane on in
          (after, ap (λ n. get_or now n None) same ∙ get_or-set_same lefts t.lane (Some after) None of.0, subst (λ n. CanPay after (calls_by n later)) (sym same) parts.1)
      | inr off ↦ let it = can lane (omega (arith, length-set lefts t.lane (Some after), lt)) in
          (it.0, get_or-set_other lefts t.lane lane (Some after) None (eqb-false lane t.lane off) ∙ it.1, subst (CanPay it.0) (split lane ∙ ap (λ (xs : List Called). xs ++ calls_by lane later) (turn_other i t.lane lane s t.line (swap lane t.lane off))) it.2)
    ] in
    let rest =
    pays_turns i u now ts (subst (λ n. AreOfLanes n ts) (sym (length-set lefts t.lane (Some after))) of.1) can_now in
    let made : pay_turns i s lefts (t ∷ ts) ≡ record
    { taken = record { lane = t.lane; step = turn_step i t.lane s t.line } ∷ (pay_turns i u now ts).taken; lefts = (pay_turns i u now ts).lefts }
    =
    ap (turned t) paid in (
      ap (λ (p : Paying). p.taken) made ∙ ap
          (λ (xs : List Taken). record { lane = t.lane; step = turn_step i t.lane s t.line } ∷ xs) rest.0,
      subst (λ (p : Paying). prefix_len (λ x. not (is_none x)) p.lefts ≡ length p.lefts) (sym made) rest.1,
    )
  where
    turned : Turn → Paid → Paying
    turned t p =
        let rest = pay_turns i p.step.state (set lefts t.lane p.left) ts in
        record { taken = record { lane = t.lane; step = p.step } ∷ rest.taken; lefts = rest.lefts }

    swap : (a b : ℕ) → (a == b) ≡ false → (b == a) ≡ false
    swap a b e = by (b == a) refl
      where
        by : (c : Bool) → (b == a) ≡ c → c ≡ false
        by false f = refl
        by true f = absurd (eqb-false a b e (sym (eqb-true b a f)))

-- ---- the drain

pub pays_request : (i : Inputs) (s : State) (left req : ℕ) → CanPay left (request_calls i s req)
    → PaysAll (pay_request i s left req) (sends_and_finishes i s req) (left_behind left (request_calls i s req))
pays_request i s left req can =
    let t : State = (call i drain_place s (submit req)).state in
    let cs : List Call = map finish (flights_of 16 t) in
    pays_then (pay_call i drain_place s left (submit req)) (call i drain_place s (submit req)) (left - 1)
    (λ t rest. each_paid (pay_call i drain_place) t rest (map finish (flights_of 16 t)))
    (each (call i drain_place) t cs)
    (left_behind (left - 1) (calls_made i drain_place t cs)) (pays_call i drain_place s left (submit req) can.0)
    (pays_calls i drain_place t (left - 1) cs can.1)

pub pays_requests : (i : Inputs) (s : State) (left : ℕ) (reqs : List ℕ) → CanPay left (requests_calls i s reqs)
    → PaysAll (each_paid (pay_request i) s left reqs) (each (sends_and_finishes i) s reqs) (left_behind left (requests_calls i s reqs))
pays_requests i s left [] can = refl
pays_requests i s left (req ∷ reqs) can =
    let u : State = (sends_and_finishes i s req).state in
    let parts = pay-append left (request_calls i s req) (requests_calls i u reqs) can in
    let mid : ℕ = left_behind left (request_calls i s req) in
    pays_then (pay_request i s left req) (sends_and_finishes i s req) mid
    (λ t rest. each_paid (pay_request i) t rest reqs) (each (sends_and_finishes i) u reqs)
    (left_behind mid (requests_calls i u reqs))
    (pays_request i s left req parts.0) (pays_requests i u mid reqs parts.1)
    ∙ ap (λ n. record { step = each (sends_and_finishes i) s (req ∷ reqs); left = Some n })
    (sym (left-append left (request_calls i s req) (requests_calls i u reqs)))

pub pays_round : (i : Inputs) (s : State) (left : ℕ) → CanPay left (round_calls i s)
    → PaysAll (pay_round i s left) (round i s) (left_behind left (round_calls i s))
pays_round i s left can =
    let t : State = record s { waiting = [] } in
    let opened : Stepped = says drain_place t (said.Requeue (length s.waiting)) in
    pays_then (record { step = opened; left = Some left }) opened left
    (λ u rest. each_paid (pay_request i) u rest s.waiting) (each (sends_and_finishes i) t s.waiting)
    (left_behind left (round_calls i s)) refl
    (pays_requests i t left s.waiting can)

-- more rounds, where the first sent something
more_rounds : (i : Inputs) (n : ℕ) (s : State) (left : ℕ) (b : Bool) → list_any is_sent (round i s).events ≡ b
    → ((rest : ℕ) → CanPay rest (rounds_calls i n (round i s).state) → PaysAll (pay_rounds i n (pay_round i (round i s).state rest)) (rounds_from i n (round i (round i s).state)) (left_behind rest (rounds_calls i n (round i s).state)))
    → CanPay left (round_calls i s ++ (if b then rounds_calls i n (round i s).state else []))
    → PaysAll (pay_rounds i (suc n) (pay_round i s left)) (if b then joined (round i s) (rounds_from i n (round i (round i s).state)) else round i s) (left_behind left (round_calls i s ++ (if b then rounds_calls i n (round i s).state else [])))
more_rounds i n s left true e later can =
    let t : State = (round i s).state in
    let parts = pay-append left (round_calls i s) (rounds_calls i n t) can in
    let mid : ℕ = left_behind left (round_calls i s) in
    let p : Paid = record { step = round i s; left = Some mid } in
    let next : State → ℕ → Paid = λ u rest. pay_rounds i n (pay_round i u rest) in
    ap (pay_rounds i (suc n)) (pays_round i s left parts.0) ∙ ap (λ (b : Bool). if b then paid_then p next else p) e
    ∙ pays_then p (round i s) mid next (rounds_from i n (round i t)) (left_behind mid (rounds_calls i n t)) refl
    (later mid parts.1)
    ∙ ap (λ k. record { step = joined (round i s) (rounds_from i n (round i t)); left = Some k })
    (sym (left-append left (round_calls i s) (rounds_calls i n t)))
more_rounds i n s left false e later can =
    let parts = pay-append left (round_calls i s) [] can in
    let mid : ℕ = left_behind left (round_calls i s) in
    let p : Paid = record { step = round i s; left = Some mid } in
    let next : State → ℕ → Paid = λ u rest. pay_rounds i n (pay_round i u rest) in
    ap (pay_rounds i (suc n)) (pays_round i s left parts.0) ∙ ap (λ (b : Bool). if b then paid_then p next else p) e
    ∙ ap (λ k. record { step = round i s; left = Some k }) (sym (left-append left (round_calls i s) []))

pub pays_rounds : (i : Inputs) (n : ℕ) (s : State) (left : ℕ) → CanPay left (rounds_calls i n s)
    → PaysAll (pay_rounds i n (pay_round i s left)) (rounds_from i n (round i s)) (left_behind left (rounds_calls i n s))
pays_rounds i zero s left can = pays_round i s left can
pays_rounds i (suc n) s left can =
    more_rounds i n s left (list_any is_sent (round i s).events) refl
    (λ rest more. pays_rounds i n (round i s).state rest more) can

pays_drain : (i : Inputs) (s : State) (left : ℕ) → CanPay left (drain_calls i s)
    → PaysAll (pay_drain i s left) (drain i s) (left_behind left (drain_calls i s))
pays_drain i s left can =
    let cs : List Call = map (λ slot. reap) s.removals in
    let t : State = (reaps s).state in
    let made : List Called = calls_made i drain_place s cs in
    let parts = pay-append left made (rounds_calls i (most_rounds i t) t) can in
    let mid : ℕ = left_behind left made in
    let same : each (call i drain_place) s cs ≡ reaps s = sym (reaps_same i s s.removals) in
    let first : PaysAll (each_paid (pay_call i drain_place) s left cs) (reaps s) mid =
    pays_calls i drain_place s left cs parts.0 ∙ ap (λ (x : Stepped). record { step = x; left = Some mid }) same in
    pays_then (each_paid (pay_call i drain_place) s left cs) (reaps s) mid
    (λ u rest. pay_rounds i (most_rounds i u) (pay_round i u rest)) (rounds_from i (most_rounds i t) (round i t))
    (left_behind mid (rounds_calls i (most_rounds i t) t)) first
    (pays_rounds i (most_rounds i t) t mid parts.1)
    ∙ ap (λ k. record { step = drain i s; left = Some k })
    (sym (left-append left made (rounds_calls i (most_rounds i t) t)))

-- ---- the whole run

of-append : (n : ℕ) (xs ys : List Turn) → AreOfLanes n xs → AreOfLanes n ys → AreOfLanes n (xs ++ ys)
of-append n [] ys p q = q
of-append n (x ∷ xs) ys p q = (p.0, of-append n xs ys p.1 q)

line_of : (n lane : ℕ) (line : Option Numbered1) → lane < n → AreOfLanes n (line_turn lane line)
line_of n lane None lt = tt
line_of n lane (Some l) lt = (lt, tt)

turn_of : (n round lane : ℕ) (plan : LanePlan) → lane < n → AreOfLanes n (turn_in round (lane, plan))
turn_of n round lane plan lt =
    elim (cases_Bool (round == length plan.lines)) [
      | inl on ↦ rw on (lt, tt)
      | inr off ↦ rw off (line_of n lane (slice_get plan.lines round) lt)
    ]

round_of_lanes : (n round k : ℕ) (plans : List LanePlan) → k + length plans ≤ n
    → AreOfLanes n (flat_map (turn_in round) (enumerate_from k plans))
round_of_lanes n round k [] le = tt
round_of_lanes n round k (p ∷ plans) le =
    of-append n (turn_in round (k, p)) (flat_map (turn_in round) (enumerate_from (k + 1) plans))
    (turn_of n round k p (omega arith)) (round_of_lanes n round (k + 1) plans (omega arith))

pub rounds_of_lanes : (n : ℕ) (plans : List LanePlan) (rounds : List ℕ) → length plans ≤ n
    → AreOfLanes n (flat_map (round_of plans) rounds)
rounds_of_lanes n plans [] le = tt
rounds_of_lanes n plans (r ∷ rounds) le =
    of-append n (round_of plans r) (flat_map (round_of plans) rounds) (round_of_lanes n r 0 plans (omega arith))
    (rounds_of_lanes n plans rounds le)

-- no call of the turns is the drain's
turns_apart : (i : Inputs) (s : State) (n : ℕ) (ts : List Turn) → n ≤ 16 → AreOfLanes n ts
    → calls_by 16 (turns_calls i s ts) ≡ []
turns_apart i s n [] le of = refl
turns_apart i s n (t ∷ ts) le of =
    let u : State = (turn_step i t.lane s t.line).state in
    filter-append (λ (c : Called). c.lane == 16) (turn_calls i t.lane s t.line) (turns_calls i u ts)
    ∙ (λ j. turn_other i t.lane 16 s t.line (apart t.lane (omega (arith, of.0, le))) j ++ turns_apart i u n ts le of.1 j)
  where
    apart : (a : ℕ) → a < 16 → (a == 16) ≡ false
    apart a lt = by (a == 16) refl
      where
        by : (b : Bool) → (a == 16) ≡ b → b ≡ false
        by false e = refl
        by true e = absurd (omega (arith, eqb-true a 16 e, lt))

-- every call of the drain is the drain's
abbrev AreOf : ℕ → List Called → Type 0
AreOf lane cs = calls_by lane cs ≡ cs

of_both : (lane : ℕ) (xs ys : List Called) → AreOf lane xs → AreOf lane ys → AreOf lane (xs ++ ys)
of_both lane xs ys p q = filter-append (λ (c : Called). c.lane == lane) xs ys ∙ (λ j. p j ++ q j)

of_requests : (i : Inputs) (s : State) (reqs : List ℕ) → AreOf 16 (requests_calls i s reqs)
of_requests i s [] = refl
of_requests i s (req ∷ reqs) =
    let t : State = (call i drain_place s (submit req)).state in
    of_both 16 (request_calls i s req) (requests_calls i (sends_and_finishes i s req).state reqs)
    (ap (λ (xs : List Called). called i drain_place s (submit req) ∷ xs) (lane_of_calls i drain_place t (map finish (flights_of 16 t))))
    (of_requests i (sends_and_finishes i s req).state reqs)

of_rounds : (i : Inputs) (n : ℕ) (s : State) → AreOf 16 (rounds_calls i n s)
of_rounds i zero s = of_requests i (record s { waiting = [] }) s.waiting
of_rounds i (suc n) s =
    let here = of_requests i (record s { waiting = [] }) s.waiting in
    elim (cases_Bool (list_any is_sent (round i s).events)) [
      | inl on ↦ rw on
          (of_both 16 (round_calls i s) (rounds_calls i n (round i s).state) here (of_rounds i n (round i s).state))
      | inr off ↦ rw off (of_both 16 (round_calls i s) [] here refl)
    ]

pub of_drain : (i : Inputs) (s : State) → AreOf 16 (drain_calls i s)
of_drain i s =
    let t : State = (reaps s).state in
    of_both 16 (calls_made i drain_place s (map (λ slot. reap) s.removals)) (rounds_calls i (most_rounds i t) t)
    (lane_of_calls i drain_place s (map (λ slot. reap) s.removals)) (of_rounds i (most_rounds i t) t)

pub replicate_get : (n lane x : ℕ) → lane < n → get_or (replicate n (Some x)) lane None ≡ Some x
replicate_get zero lane x lt = absurd (omega arith)
replicate_get (suc n) zero x lt = refl
replicate_get (suc n) (suc lane) x lt = replicate_get n lane x (omega arith)

none_spent : (lefts : List (Option ℕ)) → prefix_len (λ x. not (is_none x)) lefts ≡ length lefts
    → position is_none lefts ≡ None
none_spent lefts all =
    ap (λ (b : Bool). cond b (Some (position_or_len is_none lefts)) None)
    (le-ltb (position_or_len is_none lefts) (length lefts) (omega (arith, all)))

pub run_enough : (allowance : ℕ) (i : Inputs) (lanes : List LanePlan) → length lanes ≤ 16
    → ((lane : ℕ) → lane < 17 → CanPay allowance (calls_by lane (run_calls i lanes)))
    → serial_run allowance i lanes ≡ Ok (plain_run i lanes)
run_enough allowance i lanes few can =
    let ts : List Turn = turns_of lanes in
    let lefts : List (Option ℕ) = replicate (length lanes) (Some allowance) in
    let count : length lefts ≡ length lanes = length-replicate (length lanes) (Some allowance) in
    let of : AreOfLanes (length lefts) ts =
    rounds_of_lanes (length lefts) lanes (range_with_len 0 (longest lanes + 1)) (omega (arith, count)) in
    let s : State = state_after (opening i) (taken i (opening i) ts) in
    let here : List Called = turns_calls i (opening i) ts in
    let split : (lane : ℕ) → calls_by lane (run_calls i lanes) ≡ calls_by lane here ++ calls_by lane (drain_calls i s) =
    λ lane. filter-append (λ (c : Called). c.lane == lane) here (drain_calls i s) in
    let turns = pays_turns i (opening i) lefts ts of (λ lane lt.
    (allowance, replicate_get (length lanes) lane allowance (omega (arith, lt, count)), (pay-append allowance (calls_by lane here) (calls_by lane (drain_calls i s)) (subst (CanPay allowance) (split lane) (can lane (omega (arith, lt, count, few))))).0)) in
    let mine : calls_by 16 (run_calls i lanes) ≡ drain_calls i s =
    split 16
    ∙ (λ j. turns_apart i (opening i) (length lefts) ts (omega (arith, count, few)) of j ++ calls_by 16 (drain_calls i s))
    ∙ of_drain i s in
    let paid : pay_drain i s allowance ≡ record
    { step = drain i s; left = Some (left_behind allowance (drain_calls i s)) } = pays_drain i s allowance
    (subst (CanPay allowance) mine (can 16 (omega arith))) in
    let p : Paying = pay_turns i (opening i) lefts ts in
    (λ j. run_paid allowance i lanes (turns.0 j) (none_spent p.lefts turns.1 j)) ∙ ap
    (λ (q : Paid). run_drained i lanes (taken i (opening i) ts) q.step q.left) paid

-- ---- sums

needs_few : (c : Call) → needs c ≤ 16
needs_few (submit req) = omega arith
needs_few (finish f) = omega arith
needs_few (change ctrl o) = omega arith
needs_few (add gift) = omega arith
needs_few (remove ctrl) = omega arith
needs_few (set_policy policy) = omega arith
needs_few reap = omega arith

can_pay : (left : ℕ) (cs : List Called) → units_used cs + 16 ≤ left → CanPay left cs
can_pay left [] le = tt
can_pay left (c ∷ cs) le =
    let whole = sum_by-cons (λ (x : Called). uses x.done x.step) c cs in
    let most = needs_few c.done in
    (omega (arith, whole, le, most), can_pay (left - uses c.done c.step) cs (omega (arith, whole, le)))

pub run_sixteen : (allowance : ℕ) (i : Inputs) (lanes : List LanePlan) → length lanes ≤ 16
    → ((lane : ℕ) → lane < 17 → units_used (calls_by lane (run_calls i lanes)) + 16 ≤ allowance)
    → serial_run allowance i lanes ≡ Ok (plain_run i lanes)
run_sixteen allowance i lanes few all =
    run_enough allowance i lanes few (λ lane lt. can_pay allowance (calls_by lane (run_calls i lanes)) (all lane lt))

fewer_used : (lane : ℕ) (cs : List Called) → units_used (calls_by lane cs) ≤ units_used cs
fewer_used lane [] = omega arith
fewer_used lane (c ∷ cs) = by (c.lane == lane) (fewer_used lane cs)
  where
    by : (b : Bool) → units_used (calls_by lane cs) ≤ units_used cs
        → units_used (cond b (c ∷ calls_by lane cs) (calls_by lane cs)) ≤ units_used (c ∷ cs)
    by true rest =
        let one = sum_by-cons (λ (x : Called). uses x.done x.step) c (calls_by lane cs) in
        let all = sum_by-cons (λ (x : Called). uses x.done x.step) c cs in
        omega (arith, one, all, rest)
    by false rest = let all = sum_by-cons (λ (x : Called). uses x.done x.step) c cs in omega (arith, all, rest)

pub run_all_sixteen : (allowance : ℕ) (i : Inputs) (lanes : List LanePlan) → length lanes ≤ 16
    → units_used (run_calls i lanes) + 16 ≤ allowance → serial_run allowance i lanes ≡ Ok (plain_run i lanes)
run_all_sixteen allowance i lanes few all =
    run_sixteen allowance i lanes few
    (λ lane lt. let less = fewer_used lane (run_calls i lanes) in omega (arith, less, all))
