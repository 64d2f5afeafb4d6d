-- What was paid for is what is done without units.
use Rattle.std.proofs.Common.{[], ◌≡◌, ℕ, zero, suc, Bool, true, false, nat_lt, cond, List, ◌∷◌, inl, inr, map, length, Option, Some, None, refl, ap, ◌∙◌}
use Rattle.std.specs.List.{list_any}
use Rattle.std.proofs.lemmas.Bool.{cases_Bool}
use Rattle.mp_record.specs.declared.event.Said.TheVariants as said
use Rattle.mp_script.specs.declared.script.Numbered1.{Numbered1}
use Rattle.mp_legal.specs.PlainState.{State}
use Rattle.mp_legal.specs.PlainCall.{Inputs, Call, submit, finish, reap, call}
use Rattle.mp_legal.specs.PlainKeep.{reaped}
use Rattle.mp_legal.specs.PlainLine.{Start, turn_start, place_of, opens, runs, turn_step, flights_of}
use Rattle.mp_legal.specs.Stepped.{Stepped, Place, tells, says, joined, and_then, each}
use Rattle.mp_legal.specs.Drain.{drain_place, sends_and_finishes, finishes_all, round, is_sent, rounds_from, most_rounds, rounds, drain}
use Rattle.mp_legal.specs.Units.{needs, Paid, paid_then, each_paid, pay_call, settled, pay_line, pay_turn, pay_request, pay_round, pay_rounds, pay_drain}

-- where units are left, what was paid for is this step
abbrev pub Pays : Paid → Stepped → Type 0
Pays p step = (left : ℕ) → p.left ≡ Some left → p.step ≡ step

-- what was paid for, and then more
pays_both : (st : Stepped) (left : Option ℕ) (next : State → ℕ → Paid) (step : Stepped) (more : State → Stepped) → Pays (record { step = st; left = left }) step
    → ((s : State) (rest : ℕ) → Pays (next s rest) (more s)) → Pays (paid_then (record { step = st; left = left }) next) (and_then step more)
pays_both st None next step more first second left is = absurd cc
pays_both st (Some rest) next step more first second left is =
    ap (λ (x : Stepped). joined st x) (second st.state rest left is) ∙ ap (λ (x : Stepped). joined x (more x.state)) (first rest refl)

pub pays_then : (p : Paid) (next : State → ℕ → Paid) (step : Stepped) (more : State → Stepped) → Pays p step → ((s : State) (rest : ℕ) → Pays (next s rest) (more s)) → Pays (paid_then p next) (and_then step more)
pays_then p next step more first second = pays_both p.step p.left next step more first second

-- what costs nothing
pays_free : (step : Stepped) (rest : ℕ) → Pays (record { step = step; left = Some rest }) step
pays_free step rest left is = refl

pays_each : {X : Type 0} (pay : State → ℕ → X → Paid) (plain : State → X → Stepped) → ((s : State) (rest : ℕ) (x : X) → Pays (pay s rest x) (plain s x)) → (s : State) (rest : ℕ) (xs : List X)
    → Pays (each_paid pay s rest xs) (each plain s xs)
pays_each pay plain one s rest [] = pays_free (tells s []) rest
pays_each pay plain one s rest (x ∷ xs) =
    pays_then (pay s rest x) (λ t more. each_paid pay t more xs) (plain s x) (λ t. each plain t xs) (one s rest x) (λ t more. pays_each pay plain one t more xs)

pays_call : (i : Inputs) (at : Place) (s : State) (rest : ℕ) (c : Call) → Pays (pay_call i at s rest c) (call i at s c)
pays_call i at s rest c left is =
    elim (cases_Bool (nat_lt rest (needs c))) [
      | inl short ↦ let e = rw short at is in absurd cc
      | inr enough ↦ rw enough refl
    ]

pays_line : (i : Inputs) (at : Place) (rest : ℕ) (start : Start) → Pays (pay_line i at rest start) (runs i at start)
pays_line i at rest start =
    pays_then (record { step = opens at start; left = Some rest }) (λ s more. each_paid (pay_call i at) s more start.calls) (opens at start) (λ s. each (call i at) s start.calls)
    (pays_free (opens at start) rest) (λ s more. pays_each (pay_call i at) (call i at) (pays_call i at) s more start.calls)

pays_settled : (lane : ℕ) (st : Stepped) (left : Option ℕ) (step : Stepped) → Pays (record { step = st; left = left }) step → Pays (settled lane (record { step = st; left = left })) step
pays_settled lane st None step paid left is = absurd cc
pays_settled lane st (Some rest) step paid left is = paid left is

-- a turn
pub pays_turn : (i : Inputs) (lane : ℕ) (s : State) (turn : Option Numbered1) (rest : Option ℕ) → Pays (pay_turn i lane s turn rest) (turn_step i lane s turn)
pays_turn i lane s turn None = λ left is. absurd cc
pays_turn i lane s turn (Some rest) =
    let p : Paid = pay_line i (place_of lane turn) rest (turn_start i lane s turn) in
    pays_settled lane p.step p.left (turn_step i lane s turn) (pays_line i (place_of lane turn) rest (turn_start i lane s turn))

-- ---- the drain

pays_request : (i : Inputs) (s : State) (rest req : ℕ) → Pays (pay_request i s rest req) (sends_and_finishes i s req)
pays_request i s rest req =
    pays_then (pay_call i drain_place s rest (submit req)) (λ t more. each_paid (pay_call i drain_place) t more (map finish (flights_of 16 t))) (call i drain_place s (submit req)) (finishes_all i)
    (pays_call i drain_place s rest (submit req)) (λ t more. pays_each (pay_call i drain_place) (call i drain_place) (pays_call i drain_place) t more (map finish (flights_of 16 t)))

pays_round : (i : Inputs) (s : State) (rest : ℕ) → Pays (pay_round i s rest) (round i s)
pays_round i s rest =
    let opened : Stepped = says drain_place (record s { waiting = [] }) (said.Requeue (length s.waiting)) in
    pays_then (record { step = opened; left = Some rest }) (λ t more. each_paid (pay_request i) t more s.waiting) opened (λ t. each (sends_and_finishes i) t s.waiting)
    (pays_free opened rest) (λ t more. pays_each (pay_request i) (sends_and_finishes i) (pays_request i) t more s.waiting)

-- a choice between two that pay for the same
either_left : (b : Bool) (more first : Paid) (left : ℕ) → more.left ≡ None → first.left ≡ None → (cond b more first).left ≡ Some left → ⊥
either_left true more first left none none2 is = cc
either_left false more first left none none2 is = cc

pays_some : (b : Bool) (more first : Paid) (all step : Stepped) → Pays more all → Pays first step → Pays (cond b more first) (cond b all step)
pays_some true more first all step m f = m
pays_some false more first all step m f = f

pays_rounds : (i : Inputs) (n : ℕ) (st : Stepped) (left : Option ℕ) (step : Stepped) → Pays (record { step = st; left = left }) step → Pays (pay_rounds i n (record { step = st; left = left })) (rounds_from i n step)
pays_rounds i zero st left step paid = paid
pays_rounds i (suc n) st None step paid =
    λ left is. let first : Paid = record { step = st; left = None } in absurd (either_left (list_any is_sent st.events) first first left refl refl is)
pays_rounds i (suc n) st (Some rest) step paid =
    let first : Paid = record { step = st; left = Some rest } in
    let next : State → ℕ → Paid = λ s more. pay_rounds i n (pay_round i s more) in
    let more : State → Stepped = λ s. rounds_from i n (round i s) in
    let later : (s : State) (r : ℕ) → Pays (next s r) (more s) = λ s r. let p : Paid = pay_round i s r in pays_rounds i n p.step p.left (round i s) (pays_round i s r) in
    rw (paid rest refl) (pays_some (list_any is_sent step.events) (paid_then (record { step = step; left = Some rest }) next) (record { step = step; left = Some rest }) (and_then step more) step
    (pays_then (record { step = step; left = Some rest }) next step more (pays_free step rest) later) (pays_free step rest))

-- one reap for each removal
each_reap : (i : Inputs) (s : State) (slots : List ℕ) → each (call i drain_place) s (map (λ slot. reap) slots) ≡ each (λ t slot. reaped drain_place t) s slots
each_reap i s [] = refl
each_reap i s (slot ∷ slots) = ap (λ (x : Stepped). joined (reaped drain_place s) x) (each_reap i (reaped drain_place s).state slots)

pub pays_drain : (i : Inputs) (s : State) (rest : ℕ) → Pays (pay_drain i s rest) (drain i s)
pays_drain i s rest left is =
    let reaping : List Call = map (λ slot. reap) s.removals in
    let first : Stepped = each (call i drain_place) s reaping in
    pays_then (each_paid (pay_call i drain_place) s rest reaping) (λ t more. pay_rounds i (most_rounds i t) (pay_round i t more)) first (rounds i)
    (pays_each (pay_call i drain_place) (call i drain_place) (pays_call i drain_place) s rest reaping)
    (λ t more. let p : Paid = pay_round i t more in pays_rounds i (most_rounds i t) p.step p.left (round i t) (pays_round i t more)) left is
    ∙ ap (λ (x : Stepped). and_then x (rounds i)) (each_reap i s s.removals)
