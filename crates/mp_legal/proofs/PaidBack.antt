-- A run with units was paid for, call by call.
use Rattle.std.proofs.Common.{◌≡◌, ℕ, zero, suc, ◌+◌, ◌-◌, ◌<◌, ◌≤◌, ◌==◌, not, nat_lt, Bool, true, false, List, [], ◌∷◌, ◌++◌, inl, inr, length, map, replicate, get_or, set, cond, Option, Some, None, Ok, refl, sym, ap, ◌∙◌, subst, arith, append-nil, if◌then◌else◌}
use Rattle.std.specs.Prelude.{position, is_none}
use Rattle.std.specs.List.{list_any, range_with_len, position_or_len, prefix_len}
use Rattle.std.proofs.lemmas.Bool.{cases_Bool, eqb-true, eqb-false, lt-ltb, ltb-true, ltb-false}
use Rattle.std.proofs.lemmas.List.{get_or-set_same, get_or-set_other, length-set, length-replicate}
use Rattle.std.proofs.lemmas.List.Elements.{filter-append}
use Rattle.mp_record.specs.RunView.{RunView}
use Rattle.mp_record.specs.declared.event.Said.TheVariants as said
use Rattle.mp_script.specs.declared.script.LanePlan.{LanePlan}
use Rattle.mp_script.specs.declared.script.Numbered1.{Numbered1}
use Rattle.mp_legal.specs.PlainState.{State}
use Rattle.mp_legal.specs.PlainCall.{Inputs, Call, submit, finish, reap, call}
use Rattle.mp_legal.specs.PlainLine.{Start, turn_start, place_of, turn_step, opens, flights_of}
use Rattle.mp_legal.specs.PlainRun.{Taken, taken, state_after}
use Rattle.mp_legal.specs.Stepped.{Stepped, Place, tells, says, each}
use Rattle.mp_legal.specs.Opening.{opening}
use Rattle.mp_legal.specs.Turns.{Turn, longest, turns_of}
use Rattle.mp_legal.specs.Drain.{drain_place, is_sent, round, most_rounds, reaps, sends_and_finishes}
use Rattle.mp_legal.specs.Units.{needs, uses, Paid, paid_then, each_paid, pay_call, settled, pay_line, pay_turn, Paying, pay_turns, pay_request, pay_round, pay_rounds, pay_drain, run_drained, run_paid, serial_run}
use Rattle.mp_legal.specs.RunCalls.{Called, called, calls_made, turn_calls, turns_calls, request_calls, requests_calls, round_calls, rounds_calls, drain_calls, run_calls, calls_by}
use Rattle.mp_legal.specs.Enough.{CanPay}
use Rattle.mp_legal.proofs.MadeCalls.{reaps_same}
use Rattle.mp_legal.proofs.PaidCalls.{left_behind, PaysAll, pays_call, pays_calls, pays_turn, pays_turns, pays_request, pays_round, AreOfLanes, CanPayAll, rounds_of_lanes, turn_own, turn_other, of_drain, replicate_get}

-- what is left shows that these calls could be paid
abbrev Shows : Paid → ℕ → List Called → Type 0
Shows p left cs = (rest : ℕ) → p.left ≡ Some rest → CanPay left cs

pay-join : (left : ℕ) (xs ys : List Called) → CanPay left xs → CanPay (left_behind left xs) ys → CanPay left (xs ++ ys)
pay-join left [] ys p q = q
pay-join left (x ∷ xs) ys p q = (p.0, pay-join (left - uses x.done x.step) xs ys p.1 q)

some_same : (a b : ℕ) → Some a ≡ Some b → a ≡ b
some_same a b e = cc

then_paid : (st : Stepped) (left : Option ℕ) (next : State → ℕ → Paid) (rest : ℕ)
    → (paid_then (record { step = st; left = left }) next).left ≡ Some rest
    → (mid : ℕ) × (left ≡ Some mid) × ((next st.state mid).left ≡ Some rest)
then_paid st None next rest is = absurd cc
then_paid st (Some mid) next rest is = (mid, refl, is)

-- what was paid for, and then more
shows_then : (p : Paid) (step : Stepped) (next : State → ℕ → Paid) (left : ℕ) (xs ys : List Called) → Shows p left xs
    → (CanPay left xs → PaysAll p step (left_behind left xs))
    → Shows (next step.state (left_behind left xs)) (left_behind left xs) ys
    → Shows (paid_then p next) left (xs ++ ys)
shows_then p step next left xs ys first pays more rest is =
    let parts = then_paid p.step p.left next rest is in
    let here : CanPay left xs = first parts.0 parts.1 in
    let whole : p ≡ record { step = step; left = Some (left_behind left xs) } = pays here in
    let mid : parts.0 ≡ left_behind left xs =
    some_same parts.0 (left_behind left xs) (sym parts.1 ∙ ap (λ (q : Paid). q.left) whole) in
    let there : (next step.state (left_behind left xs)).left ≡ Some rest =
    subst (λ n. (next step.state n).left ≡ Some rest) mid
    (subst (λ (q : Paid). (next q.step.state parts.0).left ≡ Some rest) whole parts.2) in
    pay-join left xs ys here (more rest there)

abbrev call_by : (i : Inputs) (at : Place) (s : State) (left : ℕ) (c : Call) → Bool → Paid
call_by i at s left c b =
    if b then record { step = tells s []; left = None } else record
    { step = call i at s c; left = Some (left - uses c (call i at s c)) }

call_shown : (i : Inputs) (at : Place) (s : State) (left : ℕ) (c : Call) (rest : ℕ) (b : Bool)
    → nat_lt left (needs c) ≡ b → (call_by i at s left c b).left ≡ Some rest → CanPay left (called i at s c ∷ [])
call_shown i at s left c rest true e is = absurd cc
call_shown i at s left c rest false e is = (ltb-false left (needs c) e, tt)

call_shows : (i : Inputs) (at : Place) (s : State) (left : ℕ) (c : Call)
    → Shows (pay_call i at s left c) left (called i at s c ∷ [])
call_shows i at s left c rest is = call_shown i at s left c rest (nat_lt left (needs c)) refl is

calls_show : (i : Inputs) (at : Place) (s : State) (left : ℕ) (cs : List Call)
    → Shows (each_paid (pay_call i at) s left cs) left (calls_made i at s cs)
calls_show i at s left [] = λ rest is. tt
calls_show i at s left (c ∷ cs) =
    let t : State = (call i at s c).state in
    shows_then (pay_call i at s left c) (call i at s c) (λ u rest. each_paid (pay_call i at) u rest cs) left
    (called i at s c ∷ []) (calls_made i at t cs) (call_shows i at s left c) (λ can. pays_call i at s left c can.0)
    (calls_show i at t (left - uses c (call i at s c)) cs)

settled_left : (lane : ℕ) (st : Stepped) (left : Option ℕ) (rest : ℕ)
    → (settled lane (record { step = st; left = left })).left ≡ Some rest → left ≡ Some rest
settled_left lane st None rest is = absurd cc
settled_left lane st (Some n) rest is = is

turn_shows : (i : Inputs) (lane : ℕ) (s : State) (turn : Option Numbered1) (left : ℕ)
    → Shows (pay_turn i lane s turn (Some left)) left (turn_calls i lane s turn)
turn_shows i lane s turn left rest is =
    let at : Place = place_of lane turn in
    let start : Start = turn_start i lane s turn in
    let p : Paid = pay_line i at left start in
    shows_then (record { step = opens at start; left = Some left }) (opens at start)
    (λ u more. each_paid (pay_call i at) u more start.calls) left [] (calls_made i at start.state start.calls)
    (λ n e. tt) (λ can. refl)
    (calls_show i at start.state left start.calls) rest (settled_left lane p.step p.left rest is)

request_shows : (i : Inputs) (s : State) (left req : ℕ) → Shows (pay_request i s left req) left (request_calls i s req)
request_shows i s left req =
    let t : State = (call i drain_place s (submit req)).state in
    shows_then (pay_call i drain_place s left (submit req)) (call i drain_place s (submit req))
    (λ u rest. each_paid (pay_call i drain_place) u rest (map finish (flights_of 16 u))) left
    (called i drain_place s (submit req) ∷ [])
    (calls_made i drain_place t (map finish (flights_of 16 t))) (call_shows i drain_place s left (submit req))
    (λ can. pays_call i drain_place s left (submit req) can.0)
    (calls_show i drain_place t (left - 1) (map finish (flights_of 16 t)))

requests_show : (i : Inputs) (s : State) (left : ℕ) (reqs : List ℕ)
    → Shows (each_paid (pay_request i) s left reqs) left (requests_calls i s reqs)
requests_show i s left [] = λ rest is. tt
requests_show i s left (req ∷ reqs) =
    let u : State = (sends_and_finishes i s req).state in
    shows_then (pay_request i s left req) (sends_and_finishes i s req) (λ t rest. each_paid (pay_request i) t rest reqs)
    left (request_calls i s req) (requests_calls i u reqs) (request_shows i s left req)
    (λ can. pays_request i s left req can)
    (requests_show i u (left_behind left (request_calls i s req)) reqs)

round_shows : (i : Inputs) (s : State) (left : ℕ) → Shows (pay_round i s left) left (round_calls i s)
round_shows i s left =
    let t : State = record s { waiting = [] } in
    let opened : Stepped = says drain_place t (said.Requeue (length s.waiting)) in
    shows_then (record { step = opened; left = Some left }) opened
    (λ u rest. each_paid (pay_request i) u rest s.waiting) left [] (requests_calls i t s.waiting) (λ n e. tt)
    (λ can. refl) (requests_show i t left s.waiting)

-- a round that was paid for sends what the round does
rounds_by : (i : Inputs) (n : ℕ) (s : State) (left : ℕ) (b : Bool)
    → list_any is_sent (pay_round i s left).step.events ≡ b
    → ((rest : ℕ) → Shows (pay_rounds i n (pay_round i (round i s).state rest)) rest (rounds_calls i n (round i s).state))
    → (rest : ℕ)
    → (if b then paid_then (pay_round i s left) (λ u more. pay_rounds i n (pay_round i u more)) else pay_round i s left).left ≡ Some rest
    → CanPay left (round_calls i s ++ (if list_any is_sent (round i s).events then rounds_calls i n (round i s).state else []))
rounds_by i n s left true e later rest is =
    let parts =
    then_paid (pay_round i s left).step (pay_round i s left).left (λ u more. pay_rounds i n (pay_round i u more)) rest
    is in
    let here : CanPay left (round_calls i s) = round_shows i s left parts.0 parts.1 in
    let whole = pays_round i s left here in
    let on : list_any is_sent (round i s).events ≡ true =
    ap (λ (q : Paid). list_any is_sent q.step.events) (sym whole) ∙ e in
    subst (λ b. CanPay left (round_calls i s ++ (if b then rounds_calls i n (round i s).state else []))) (sym on)
    (shows_then (pay_round i s left) (round i s) (λ u more. pay_rounds i n (pay_round i u more)) left (round_calls i s) (rounds_calls i n (round i s).state) (round_shows i s left) (λ can. pays_round i s left can) (later (left_behind left (round_calls i s))) rest is)
rounds_by i n s left false e later rest is =
    let here : CanPay left (round_calls i s) = round_shows i s left rest is in
    let whole = pays_round i s left here in
    let off : list_any is_sent (round i s).events ≡ false =
    ap (λ (q : Paid). list_any is_sent q.step.events) (sym whole) ∙ e in
    subst (λ b. CanPay left (round_calls i s ++ (if b then rounds_calls i n (round i s).state else []))) (sym off)
    (pay-join left (round_calls i s) [] here tt)

rounds_show : (i : Inputs) (n : ℕ) (s : State) (left : ℕ)
    → Shows (pay_rounds i n (pay_round i s left)) left (rounds_calls i n s)
rounds_show i zero s left = round_shows i s left
rounds_show i (suc n) s left =
    rounds_by i n s left (list_any is_sent (pay_round i s left).step.events) refl
    (λ more. rounds_show i n (round i s).state more)

drain_shows : (i : Inputs) (s : State) (left : ℕ) → Shows (pay_drain i s left) left (drain_calls i s)
drain_shows i s left =
    let cs : List Call = map (λ slot. reap) s.removals in
    let t : State = (reaps s).state in
    let made : List Called = calls_made i drain_place s cs in
    let same : each (call i drain_place) s cs ≡ reaps s = sym (reaps_same i s s.removals) in
    shows_then (each_paid (pay_call i drain_place) s left cs) (reaps s)
    (λ u rest. pay_rounds i (most_rounds i u) (pay_round i u rest)) left made (rounds_calls i (most_rounds i t) t)
    (calls_show i drain_place s left cs)
    (λ can. pays_calls i drain_place s left cs can ∙ ap (λ (x : Stepped). record { step = x; left = Some (left_behind left made) }) same)
    (rounds_show i (most_rounds i t) t (left_behind left made))

-- ---- the turns

lefts-length : (i : Inputs) (s : State) (lefts : List (Option ℕ)) (ts : List Turn)
    → length (pay_turns i s lefts ts).lefts ≡ length lefts
lefts-length i s lefts [] = refl
lefts-length i s lefts (t ∷ ts) =
    let p : Paid = pay_turn i t.lane s t.line (get_or lefts t.lane None) in
    lefts-length i p.step.state (set lefts t.lane p.left) ts ∙ length-set lefts t.lane p.left

-- a lane that is spent stays so
spent_stays : (i : Inputs) (s : State) (lefts : List (Option ℕ)) (ts : List Turn) (lane : ℕ) → lane < length lefts
    → get_or lefts lane None ≡ None → get_or (pay_turns i s lefts ts).lefts lane None ≡ None
spent_stays i s lefts [] lane lt spent = spent
spent_stays i s lefts (t ∷ ts) lane lt spent =
    let p : Paid = pay_turn i t.lane s t.line (get_or lefts t.lane None) in
    let after : get_or (set lefts t.lane p.left) lane None ≡ None =
    elim (cases_Bool (lane == t.lane)) [
      | inl same ↦ let here : lane ≡ t.lane = eqb-true lane t.lane same in
          let none : p.left ≡ None =
          ap (λ (o : Option ℕ). (pay_turn i t.lane s t.line o).left)
          (ap (λ n. get_or lefts n None) (sym here) ∙ spent) in
          ap (λ n. get_or (set lefts t.lane p.left) n None) here ∙ get_or-set_same lefts t.lane p.left None
          (omega (arith, here, lt)) ∙ none
      | inr other ↦ get_or-set_other lefts t.lane lane p.left None (eqb-false lane t.lane other) ∙ spent
    ] in
    spent_stays i p.step.state (set lefts t.lane p.left) ts lane (omega (arith, length-set lefts t.lane p.left, lt))
    after

prefix_short : (xs : List (Option ℕ)) (lane : ℕ) → lane < length xs → get_or xs lane None ≡ None
    → prefix_len (λ x. not (is_none x)) xs < length xs
prefix_short [] lane lt none = absurd (omega arith)
prefix_short (None ∷ xs) lane lt none = omega arith
prefix_short (Some x ∷ xs) zero lt none = absurd cc
prefix_short (Some x ∷ xs) (suc lane) lt none = let rest = prefix_short xs lane (omega arith) none in omega
    (arith, rest)

none_missing : (xs : List (Option ℕ)) (lane : ℕ) → lane < length xs → get_or xs lane None ≡ None
    → position is_none xs ≡ None → ⊥
none_missing xs lane lt none all =
    let short = prefix_short xs lane lt none in
    never (position_or_len is_none xs)
    (ap (λ b. cond b (Some (position_or_len is_none xs)) None) (sym (lt-ltb (position_or_len is_none xs) (length xs) short)) ∙ all)
  where
    never : (n : ℕ) → Some n ≡ None → ⊥
    never n e = cc

-- Each lane has units left.
abbrev AllSome : List (Option ℕ) → Type 0
AllSome lefts = (lane : ℕ) → lane < length lefts → (left : ℕ) × (get_or lefts lane None ≡ Some left)

swap : (a b : ℕ) → (a == b) ≡ false → (b == a) ≡ false
swap a b e = by (b == a) refl
  where
    by : (c : Bool) → (b == a) ≡ c → c ≡ false
    by false f = refl
    by true f = absurd (eqb-false a b e (sym (eqb-true b a f)))

-- one turn that was paid for, and the turns behind it
turn_joins : (i : Inputs) (s : State) (lefts : List (Option ℕ)) (t : Turn) (ts : List Turn) (own : ℕ)
    → t.lane < length lefts → get_or lefts t.lane None ≡ Some own → AllSome lefts
    → CanPay own (turn_calls i t.lane s t.line)
    → CanPayAll (set lefts t.lane (Some (left_behind own (turn_calls i t.lane s t.line)))) (turns_calls i (turn_step i t.lane s t.line).state ts)
    → CanPayAll lefts (turns_calls i s (t ∷ ts))
turn_joins i s lefts t ts own lt is some here later lane low =
    let u : State = (turn_step i t.lane s t.line).state in
    let mine : List Called = turn_calls i t.lane s t.line in
    let rest : List Called = turns_calls i u ts in
    let split : calls_by lane (mine ++ rest) ≡ calls_by lane mine ++ calls_by lane rest =
    filter-append (λ (c : Called). c.lane == lane) mine rest in
    let after : ℕ = left_behind own mine in
    let it = later lane (omega (arith, length-set lefts t.lane (Some after), low)) in
    elim (cases_Bool (lane == t.lane)) [
      | inl on ↦ let same : lane ≡ t.lane = eqb-true lane t.lane on in
          let left : it.0 ≡ after = some_same it.0 after (sym it.1 ∙ ap (λ n. get_or (set lefts t.lane (Some after)) n None) same ∙ get_or-set_same lefts t.lane (Some after) None lt) in (
            own,
            ap (λ n. get_or lefts n None) same ∙ is,
            subst (CanPay own)
                (sym (split ∙ ap (λ (xs : List Called). xs ++ calls_by lane rest) (ap (λ n. calls_by n mine) same ∙ turn_own i t.lane s t.line)))
                (pay-join own mine (calls_by lane rest) here (subst (λ n. CanPay n (calls_by lane rest)) left it.2)),
          )
      | inr off ↦ (
        it.0,
        sym (get_or-set_other lefts t.lane lane (Some after) None (eqb-false lane t.lane off)) ∙ it.1,
        subst (CanPay it.0)
            (sym (split ∙ ap (λ (xs : List Called). xs ++ calls_by lane rest) (turn_other i t.lane lane s t.line (swap lane t.lane off))))
            it.2,
      )
    ]

turn_by : (i : Inputs) (s : State) (lefts : List (Option ℕ)) (t : Turn) (ts : List Turn) (own : ℕ)
    → t.lane < length lefts → get_or lefts t.lane None ≡ Some own → AllSome lefts
    → ((n : ℕ) → AllSome (set lefts t.lane (Some n)) → position is_none (pay_turns i (turn_step i t.lane s t.line).state (set lefts t.lane (Some n)) ts).lefts ≡ None → CanPayAll (set lefts t.lane (Some n)) (turns_calls i (turn_step i t.lane s t.line).state ts))
    → (o : Option ℕ) → (pay_turn i t.lane s t.line (Some own)).left ≡ o
    → position is_none (pay_turns i (pay_turn i t.lane s t.line (Some own)).step.state (set lefts t.lane (pay_turn i t.lane s t.line (Some own)).left) ts).lefts ≡ None
    → CanPayAll lefts (turns_calls i s (t ∷ ts))
turn_by i s lefts t ts own lt is some later None e none =
    let p : Paid = pay_turn i t.lane s t.line (Some own) in
    let now : List (Option ℕ) = set lefts t.lane p.left in
    let size : length now ≡ length lefts = length-set lefts t.lane p.left in
    let here : get_or now t.lane None ≡ None = get_or-set_same lefts t.lane p.left None lt ∙ e in
    let last = spent_stays i p.step.state now ts t.lane (omega (arith, size, lt)) here in
    absurd
    (none_missing (pay_turns i p.step.state now ts).lefts t.lane (omega (arith, lefts-length i p.step.state now ts, size, lt)) last none)
turn_by i s lefts t ts own lt is some later (Some rest) e none =
    let here : CanPay own (turn_calls i t.lane s t.line) = turn_shows i t.lane s t.line own rest e in
    let after : ℕ = left_behind own (turn_calls i t.lane s t.line) in
    let whole : pay_turn i t.lane s t.line (Some own) ≡ record { step = turn_step i t.lane s t.line; left = Some after }
    = pays_turn i t.lane s t.line own here in
    let still : AllSome (set lefts t.lane (Some after)) = λ lane low. elim (cases_Bool (lane == t.lane)) [
      | inl on ↦
          (after, ap (λ n. get_or (set lefts t.lane (Some after)) n None) (eqb-true lane t.lane on) ∙ get_or-set_same lefts t.lane (Some after) None lt)
      | inr off ↦ let it = some lane (omega (arith, length-set lefts t.lane (Some after), low)) in
          (it.0, get_or-set_other lefts t.lane lane (Some after) None (eqb-false lane t.lane off) ∙ it.1)
    ] in
    let none_now : position is_none
    (pay_turns i (turn_step i t.lane s t.line).state (set lefts t.lane (Some after)) ts).lefts ≡ None =
    subst (λ (q : Paid). position is_none (pay_turns i q.step.state (set lefts t.lane q.left) ts).lefts ≡ None) whole
    none in
    turn_joins i s lefts t ts own lt is some here (later after still none_now)

turns_show : (i : Inputs) (s : State) (lefts : List (Option ℕ)) (ts : List Turn) → AreOfLanes (length lefts) ts
    → AllSome lefts → position is_none (pay_turns i s lefts ts).lefts ≡ None → CanPayAll lefts (turns_calls i s ts)
turns_show i s lefts [] of some none = λ lane lt. let it = some lane lt in (it.0, it.1, tt)
turns_show i s lefts (t ∷ ts) of some none =
    let own = some t.lane of.0 in
    turn_by i s lefts t ts own.0 of.0 own.1 some
    (λ n still later. turns_show i (turn_step i t.lane s t.line).state (set lefts t.lane (Some n)) ts (subst (λ k. AreOfLanes k ts) (sym (length-set lefts t.lane (Some n))) of.1) still later)
    (pay_turn i t.lane s t.line (Some own.0)).left refl
    (subst (λ (o : Option ℕ). position is_none (pay_turns i (pay_turn i t.lane s t.line o).step.state (set lefts t.lane (pay_turn i t.lane s t.line o).left) ts).lefts ≡ None) own.1 none)

-- ---- the run

turns_beyond : (i : Inputs) (s : State) (n lane : ℕ) (ts : List Turn) → n ≤ lane → AreOfLanes n ts
    → calls_by lane (turns_calls i s ts) ≡ []
turns_beyond i s n lane [] le of = refl
turns_beyond i s n lane (t ∷ ts) le of =
    let u : State = (turn_step i t.lane s t.line).state in
    filter-append (λ (c : Called). c.lane == lane) (turn_calls i t.lane s t.line) (turns_calls i u ts)
    ∙ (λ j. turn_other i t.lane lane s t.line (apart t.lane (omega (arith, of.0, le))) j ++ turns_beyond i u n lane ts le of.1 j)
  where
    apart : (a : ℕ) → a < lane → (a == lane) ≡ false
    apart a lt = by (a == lane) refl
      where
        by : (b : Bool) → (a == lane) ≡ b → b ≡ false
        by false e = refl
        by true e = absurd (omega (arith, eqb-true a lane e, lt))

differs : (lane a : ℕ) → (lane == 16) ≡ false → (a == 16) ≡ true → (a == lane) ≡ false
differs lane a off e = ap (λ n. n == lane) (eqb-true a 16 e) ∙ swap lane 16 off

-- calls of one lane are none of another
none_of : (lane : ℕ) (cs : List Called) → (lane == 16) ≡ false → calls_by 16 cs ≡ cs → calls_by lane cs ≡ []
none_of lane cs off of = ap (calls_by lane) (sym of) ∙ out cs
  where
    out : (xs : List Called) → calls_by lane (calls_by 16 xs) ≡ []
    out [] = refl
    out (x ∷ xs) = by (x.lane == 16) refl (out xs)
      where
        by : (b : Bool) → (x.lane == 16) ≡ b → calls_by lane (calls_by 16 xs) ≡ []
            → calls_by lane (cond b (x ∷ calls_by 16 xs) (calls_by 16 xs)) ≡ []
        by false e rest = rest
        by true e rest =
            (λ j. cond (differs lane x.lane off e j) (x ∷ calls_by lane (calls_by 16 xs)) (calls_by lane (calls_by 16 xs)))
            ∙ rest

run_some : (allowance : ℕ) (i : Inputs) (lanes : List LanePlan) (ts : List Taken) (first : Option ℕ) (run : RunView)
    → run_paid allowance i lanes ts first ≡ Ok run
    → (first ≡ None) × (run_drained i lanes ts (pay_drain i (state_after (opening i) ts) allowance).step (pay_drain i (state_after (opening i) ts) allowance).left ≡ Ok run)
run_some allowance i lanes ts (Some lane) run is = absurd cc
run_some allowance i lanes ts None run is = (refl, is)

drained_some : (i : Inputs) (lanes : List LanePlan) (ts : List Taken) (last : Stepped) (left : Option ℕ) (run : RunView)
    → run_drained i lanes ts last left ≡ Ok run → (rest : ℕ) × (left ≡ Some rest)
drained_some i lanes ts last None run is = absurd cc
drained_some i lanes ts last (Some rest) run is = (rest, refl)

pub run_shows : (allowance : ℕ) (i : Inputs) (lanes : List LanePlan) (run : RunView) → length lanes ≤ 16
    → serial_run allowance i lanes ≡ Ok run → (lane : ℕ) → lane < 17
    → CanPay allowance (calls_by lane (run_calls i lanes))
run_shows allowance i lanes run few is lane lt =
    let ts : List Turn = turns_of lanes in
    let lefts : List (Option ℕ) = replicate (length lanes) (Some allowance) in
    let count : length lefts ≡ length lanes = length-replicate (length lanes) (Some allowance) in
    let of : AreOfLanes (length lefts) ts =
    rounds_of_lanes (length lefts) lanes (range_with_len 0 (longest lanes + 1)) (omega (arith, count)) in
    let p : Paying = pay_turns i (opening i) lefts ts in
    let parts = run_some allowance i lanes p.taken (position is_none p.lefts) run is in
    let some : AllSome lefts =
    λ l low. (allowance, replicate_get (length lanes) l allowance (omega (arith, low, count))) in
    let turns : CanPayAll lefts (turns_calls i (opening i) ts) = turns_show i (opening i) lefts ts of some parts.0 in
    let took = (pays_turns i (opening i) lefts ts of turns).0 in
    let s : State = state_after (opening i) (taken i (opening i) ts) in
    let left =
    drained_some i lanes p.taken (pay_drain i (state_after (opening i) p.taken) allowance).step
    (pay_drain i (state_after (opening i) p.taken) allowance).left run parts.1 in
    let drained : CanPay allowance (drain_calls i s) =
    drain_shows i s allowance left.0
    (ap (λ (xs : List Taken). (pay_drain i (state_after (opening i) xs) allowance).left) (sym took) ∙ left.1) in
    let here : List Called = turns_calls i (opening i) ts in
    let split : calls_by lane (run_calls i lanes) ≡ calls_by lane here ++ calls_by lane (drain_calls i s) =
    filter-append (λ (c : Called). c.lane == lane) here (drain_calls i s) in
    elim (cases_Bool (lane == 16)) [
      | inl on ↦ let same : lane ≡ 16 = eqb-true lane 16 on in
          let none : calls_by lane here ≡ [] =
          turns_beyond i (opening i) (length lefts) lane ts (omega (arith, same, count, few)) of in
          let its : calls_by lane (drain_calls i s) ≡ drain_calls i s =
          ap (λ n. calls_by n (drain_calls i s)) same ∙ of_drain i s in
          subst (CanPay allowance) (sym (split ∙ (λ j. none j ++ its j))) drained
      | inr off ↦ let none : calls_by lane (drain_calls i s) ≡ [] = none_of lane (drain_calls i s) off (of_drain i s) in
          subst (CanPay allowance)
          (sym (split ∙ ap (λ (xs : List Called). calls_by lane here ++ xs) none ∙ append-nil (calls_by lane here)))
          (mine lane count turns of)
    ]
  where
    mine : (l : ℕ) → length (replicate (length lanes) (Some allowance)) ≡ length lanes
        → CanPayAll (replicate (length lanes) (Some allowance)) (turns_calls i (opening i) (turns_of lanes))
        → AreOfLanes (length (replicate (length lanes) (Some allowance))) (turns_of lanes)
        → CanPay allowance (calls_by l (turns_calls i (opening i) (turns_of lanes)))
    mine l count turns of = by (nat_lt l (length lanes)) refl
      where
        by : (b : Bool) → nat_lt l (length lanes) ≡ b
            → CanPay allowance (calls_by l (turns_calls i (opening i) (turns_of lanes)))
        by true e =
            let low : l < length lanes = ltb-true l (length lanes) e in
            let it = turns l (omega (arith, low, count)) in
            subst (λ n. CanPay n (calls_by l (turns_calls i (opening i) (turns_of lanes))))
            (some_same it.0 allowance (sym it.1 ∙ replicate_get (length lanes) l allowance low)) it.2
        by false e =
            let high : length lanes ≤ l = ltb-false l (length lanes) e in
            subst (CanPay allowance)
            (sym (turns_beyond i (opening i) (length (replicate (length lanes) (Some allowance))) l (turns_of lanes) (omega (arith, high, count)) of))
            tt
