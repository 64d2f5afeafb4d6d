-- A run for which the units are enough is the plain run.
use Rattle.std.proofs.Common.{[], ◌≡◌, ℕ, zero, suc, ◌+◌, ◌<◌, ◌≤◌, true, ◌==◌, not, nat_lt, List, ◌∷◌, ◌++◌, inl, inr, length, replicate, get_or, set, Option, Some, None, Result, Ok, refl, sym, ap, ◌∙◌, arith}
use Rattle.std.specs.Prelude.{position, is_none, slice_get}
use Rattle.std.specs.List.{enumerate_from, range_with_len, flat_map, position_or_len, prefix_len}
use Rattle.std.proofs.lemmas.Bool.{cases_Bool, eqb-true}
use Rattle.std.proofs.lemmas.Bool.Decides.{nat_tests}
use Rattle.std.proofs.lemmas.List.{get_or-set_same, get_or-set_other, length-set, length-replicate}
use Rattle.mp_record.specs.RunView.{RunView}
use Rattle.mp_script.specs.declared.script.LanePlan.{LanePlan}
use Rattle.mp_script.specs.declared.script.Numbered1.{Numbered1}
use Rattle.mp_legal.specs.PlainState.{State}
use Rattle.mp_legal.specs.PlainCall.{Inputs}
use Rattle.mp_legal.specs.PlainLine.{turn_step}
use Rattle.mp_legal.specs.PlainRun.{Taken, taken, state_after, run_of, plain_run}
use Rattle.mp_legal.specs.Stepped.{Stepped}
use Rattle.mp_legal.specs.Opening.{opening}
use Rattle.mp_legal.specs.Drain.{drain}
use Rattle.mp_legal.specs.Turns.{Turn, turn_in, line_turn, round_of, longest, turns_of}
use Rattle.mp_legal.specs.Units.{Paid, pay_turn, Paying, pay_turns, pay_drain, run_drained, run_paid, serial_run}
use Rattle.mp_run.proofs.Paid.{Pays, pays_turn, pays_drain}

-- each turn is of one of so many lanes
abbrev pub AreOfLanes : ℕ → List Turn → Type 0
AreOfLanes lanes [] = Unit {0}
AreOfLanes lanes (t ∷ turns) = (t.lane < lanes) × AreOfLanes lanes turns

of-append : (n : ℕ) (xs ys : List Turn) → AreOfLanes n xs → AreOfLanes n ys → AreOfLanes n (xs ++ ys)
of-append n [] ys p q = q
of-append n (x ∷ xs) ys p q = (p.0, of-append n xs ys p.1 q)

line_of : (n lane : ℕ) (line : Option Numbered1) → lane < n → AreOfLanes n (line_turn lane line)
line_of n lane None lt = tt
line_of n lane (Some l) lt = (lt, tt)

turn_of : (n round lane : ℕ) (plan : LanePlan) → lane < n → AreOfLanes n (turn_in round (lane, plan))
turn_of n round lane plan lt =
    elim (cases_Bool (round == length plan.lines)) [
      | inl on ↦ rw on (lt, tt)
      | inr off ↦ rw off (line_of n lane (slice_get plan.lines round) lt)
    ]

round_of_lanes : (n round k : ℕ) (plans : List LanePlan) → k + length plans ≤ n → AreOfLanes n (flat_map (turn_in round) (enumerate_from k plans))
round_of_lanes n round k [] le = tt
round_of_lanes n round k (p ∷ plans) le =
    of-append n (turn_in round (k, p)) (flat_map (turn_in round) (enumerate_from (k + 1) plans)) (turn_of n round k p (omega arith)) (round_of_lanes n round (k + 1) plans (omega arith))

pub rounds_of_lanes : (n : ℕ) (plans : List LanePlan) (rounds : List ℕ) → length plans ≤ n → AreOfLanes n (flat_map (round_of plans) rounds)
rounds_of_lanes n plans [] le = tt
rounds_of_lanes n plans (r ∷ rounds) le = of-append n (round_of plans r) (flat_map (round_of plans) rounds) (round_of_lanes n r 0 plans (omega arith)) (rounds_of_lanes n plans rounds le)

-- ---- a lane that is spent stays so

spent_stays : (i : Inputs) (s : State) (lefts : List (Option ℕ)) (turns : List Turn) (lane : ℕ) → lane < length lefts → get_or lefts lane None ≡ None → get_or (pay_turns i s lefts turns).lefts lane None ≡ None
spent_stays i s lefts [] lane lt spent = spent
spent_stays i s lefts (t ∷ turns) lane lt spent =
    let p : Paid = pay_turn i t.lane s t.line (get_or lefts t.lane None) in
    let after : get_or (set lefts t.lane p.left) lane None ≡ None =
    elim (cases_Bool (lane == t.lane)) [
      | inl same ↦ let here : lane ≡ t.lane = eqb-true lane t.lane same in
          let none : p.left ≡ None = ap (λ (o : Option ℕ). (pay_turn i t.lane s t.line o).left) (ap (λ n. get_or lefts n None) (sym here) ∙ spent) in
          ap (λ n. get_or (set lefts t.lane p.left) n None) here ∙ get_or-set_same lefts t.lane p.left None (omega (arith, here, lt)) ∙ none
      | inr other ↦ get_or-set_other lefts t.lane lane p.left None (λ e. let is : (lane == t.lane) ≡ true = ap (λ n. lane == n) (sym e) ∙ same_number lane in cc) ∙ spent
    ] in
    spent_stays i p.step.state (set lefts t.lane p.left) turns lane (omega (arith, length-set lefts t.lane p.left)) after
  where
    same_number : (n : ℕ) → (n == n) ≡ true
    same_number n = grind (arith, nat_tests)

lefts-length : (i : Inputs) (s : State) (lefts : List (Option ℕ)) (turns : List Turn) → length (pay_turns i s lefts turns).lefts ≡ length lefts
lefts-length i s lefts [] = refl
lefts-length i s lefts (t ∷ turns) =
    let p : Paid = pay_turn i t.lane s t.line (get_or lefts t.lane None) in
    lefts-length i p.step.state (set lefts t.lane p.left) turns ∙ length-set lefts t.lane p.left

-- where none is spent, none has no units
prefix_short : (xs : List (Option ℕ)) (lane : ℕ) → lane < length xs → get_or xs lane None ≡ None → prefix_len (λ x. not (is_none x)) xs < length xs
prefix_short [] lane lt none = absurd (omega arith)
prefix_short (None ∷ xs) lane lt none = omega arith
prefix_short (Some x ∷ xs) zero lt none = absurd cc
prefix_short (Some x ∷ xs) (suc lane) lt none = let rest = prefix_short xs lane (omega arith) none in omega (arith, rest)

none_missing : (xs : List (Option ℕ)) (lane : ℕ) → lane < length xs → get_or xs lane None ≡ None → position is_none xs ≡ None → ⊥
none_missing xs lane lt none all =
    let short = prefix_short xs lane lt none in
    let on : nat_lt (position_or_len is_none xs) (length xs) ≡ true = grind (arith, nat_tests, short) in
    let e = rw on at all in cc

-- ---- the turns, and the run

turn_paid : (i : Inputs) (s : State) (lefts : List (Option ℕ)) (t : Turn) (turns : List Turn) (left : Option ℕ) → t.lane < length lefts
    → position is_none (pay_turns i s lefts (t ∷ turns)).lefts ≡ None → (pay_turn i t.lane s t.line (get_or lefts t.lane None)).left ≡ left
    → (pay_turn i t.lane s t.line (get_or lefts t.lane None)).step ≡ turn_step i t.lane s t.line
turn_paid i s lefts t turns (Some left) lt all is = pays_turn i t.lane s t.line (get_or lefts t.lane None) left is
turn_paid i s lefts t turns None lt all is =
    let p : Paid = pay_turn i t.lane s t.line (get_or lefts t.lane None) in
    let here : get_or (set lefts t.lane p.left) t.lane None ≡ None = get_or-set_same lefts t.lane p.left None lt ∙ is in
    let last = spent_stays i p.step.state (set lefts t.lane p.left) turns t.lane (omega (arith, length-set lefts t.lane p.left)) here in
    absurd (none_missing (pay_turns i s lefts (t ∷ turns)).lefts t.lane (omega (arith, lefts-length i s lefts (t ∷ turns))) last all)

pub turns_paid : (i : Inputs) (s : State) (lefts : List (Option ℕ)) (turns : List Turn) → AreOfLanes (length lefts) turns → position is_none (pay_turns i s lefts turns).lefts ≡ None
    → (pay_turns i s lefts turns).taken ≡ taken i s turns
turns_paid i s lefts [] of all = refl
turns_paid i s lefts (t ∷ turns) of all =
    let p : Paid = pay_turn i t.lane s t.line (get_or lefts t.lane None) in
    let step : p.step ≡ turn_step i t.lane s t.line = turn_paid i s lefts t turns p.left of.0 all refl in
    let rest : (pay_turns i p.step.state (set lefts t.lane p.left) turns).taken ≡ taken i p.step.state turns =
    turns_paid i p.step.state (set lefts t.lane p.left) turns (rw (length-set lefts t.lane p.left) of.1) all in
    ap (λ (ts : List Taken). record { lane = t.lane; step = p.step } ∷ ts) rest
    ∙ ap (λ (x : Stepped). record { lane = t.lane; step = x } ∷ taken i x.state turns) step

ok_same : {E : Type 0} (x y : RunView) (r : Result RunView E) → r ≡ Ok x → r ≡ Ok y → x ≡ y
ok_same x y r one two = cc

drained_is : (i : Inputs) (lanes : List LanePlan) (ts : List Taken) (p : Paid) (left : Option ℕ) (run : RunView) → p.left ≡ left → Pays p (drain i (state_after (opening i) ts))
    → run_drained i lanes ts p.step left ≡ Ok run → run ≡ run_of i lanes ts (drain i (state_after (opening i) ts))
drained_is i lanes ts p None run is paid ok = absurd cc
drained_is i lanes ts p (Some rest) run is paid ok = ok_same run (run_of i lanes ts p.step) (Ok (run_of i lanes ts p.step)) ok refl ∙ ap (run_of i lanes ts) (paid rest is)

paid_by : (allowance : ℕ) (i : Inputs) (lanes : List LanePlan) (run : RunView) (ts : Paying) (first : Option ℕ) → (first ≡ None → ts.taken ≡ taken i (opening i) (turns_of lanes))
    → run_paid allowance i lanes ts.taken first ≡ Ok run → run ≡ plain_run i lanes
paid_by allowance i lanes run ts (Some lane) turns ok = absurd cc
paid_by allowance i lanes run ts None turns ok =
    let before : State = state_after (opening i) ts.taken in
    let p : Paid = pay_drain i before allowance in
    drained_is i lanes ts.taken p p.left run refl (pays_drain i before allowance) ok
    ∙ ap (λ (xs : List Taken). run_of i lanes xs (drain i (state_after (opening i) xs))) (turns refl)

pub paid_is_plain : (allowance : ℕ) (i : Inputs) (lanes : List LanePlan) (run : RunView) → serial_run allowance i lanes ≡ Ok run → run ≡ plain_run i lanes
paid_is_plain allowance i lanes run ok =
    let lefts : List (Option ℕ) = replicate (length lanes) (Some allowance) in
    let ts : Paying = pay_turns i (opening i) lefts (turns_of lanes) in
    let of : AreOfLanes (length lefts) (turns_of lanes) = rounds_of_lanes (length lefts) lanes (range_with_len 0 (longest lanes + 1)) (omega (arith, length-replicate (length lanes) (Some allowance))) in
    paid_by allowance i lanes run ts (position is_none ts.lefts) (turns_paid i (opening i) lefts (turns_of lanes) of) ok
