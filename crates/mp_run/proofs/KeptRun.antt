-- The plain run loses no request.
use Rattle.std.proofs.Common.{[], ◌≡◌, ℕ, zero, suc, ◌+◌, ◌<◌, ◌≤◌, Bool, true, false, not, ◌==◌, cond, List, ◌∷◌, inl, inr, map, length, get_or, replicate, Option, Some, None, refl, sym, ap, ◌∙◌, subst, eq-eqb, arith}
use Rattle.std.specs.Prelude.{is_some}
use Rattle.std.specs.List.{list_any, range_with_len, AllByRecursion}
use Rattle.std.proofs.lemmas.Bool.{cases_Bool, eqb-true, cases_eq}
use Rattle.std.proofs.lemmas.List.{length-replicate}
use Rattle.mp_checks.specs.Marks.{has}
use Rattle.mp_words.specs.declared.flight.Flight.{Flight}
use Rattle.mp_words.specs.declared.trying.Outcome.TheVariants as outcome
use Rattle.mp_script.specs.declared.script.LanePlan.{LanePlan}
use Rattle.mp_script.specs.declared.script.Numbered1.{Numbered1}
use Rattle.mp_script.specs.Distinct.{IsDistinct}
use Rattle.mp_script.specs.Facts.{submits_in}
use Rattle.mp_legal.specs.PlainState.{State}
use Rattle.mp_legal.specs.PlainCall.{Inputs, submit, finish, call}
use Rattle.mp_legal.specs.PlainKeep.{reaped}
use Rattle.mp_legal.specs.PlainLine.{turn_step, flights_of}
use Rattle.mp_legal.specs.PlainRun.{taken, state_after, plain_run, state_left}
use Rattle.mp_legal.specs.Opening.{opening}
use Rattle.mp_legal.specs.Stepped.{Stepped, each}
use Rattle.mp_legal.specs.Drain.{drain_place, sends_and_finishes, is_sent, round, rounds_from, most_rounds, reaps, drain}
use Rattle.mp_legal.specs.Turns.{Turn, longest, turns_of}
use Rattle.mp_legal.specs.Numbers.{has_req, has_flight, standing}
use Rattle.mp_run.specs.LaneTurns.{submit_in, turns_submits}
use Rattle.mp_run.specs.Quiet.{IsQuiet, closes}
use Rattle.mp_run.specs.Sound.{AreOf, AreAloft}
use Rattle.mp_run.specs.Told.{IsOver, AreNumbered}
use Rattle.mp_run.proofs.KeptCalls.{AreHome, Keeps, Stays, keeps_both, keeps_call, keeps_each, keeps_stays, stays_reap, calls_of}
use Rattle.mp_run.proofs.KeptTurns.{Turned, turn_keeps, end_quiet, all_end}
use Rattle.mp_run.proofs.OnTurns.{numbers}
use Rattle.mp_run.proofs.PaidRun.{AreOfLanes, rounds_of_lanes}
use Rattle.mp_run.proofs.Quiet.{turns_close}
use Rattle.mp_run.proofs.PutNumbers.{climbs_all, count-all, distinct_all, numbered_once, put_all, put_all-append}
use Rattle.mp_run.proofs.Told.{all_over, told_has}
use Rattle.mp_run.proofs.TurnFacts.{count, fresh_turns, turns_count}

-- ---- the opening

-- nothing flies at the opening
none_there : (n lane : ℕ) → get_or {A = List Flight} (replicate n []) lane [] ≡ []
none_there zero lane = refl
none_there (suc n) zero = refl
none_there (suc n) (suc lane) = none_there n lane

pub opening_quiet : (i : Inputs) → IsQuiet (opening i)
opening_quiet i lane = none_there 17 lane

-- ---- the turns

-- What holds between two turns: each request that was sent flies, each flight is of its lane, and there are seventeen lanes.
record IsKept (s : State) : Type 0 where
  home : AreHome s
  aloft : AreAloft s
  lanes : length s.flights ≡ 17

opening_kept : (i : Inputs) → IsKept (opening i)
opening_kept i = record {
  home = λ lane. subst (AreOf lane) (sym (none_there 17 lane)) tt;
  aloft = λ req e. absurd cc;
  lanes = length-replicate {A = List Flight} 17 [];
}

turn_kept : (i : Inputs) (lane : ℕ) (s : State) (turn : Option Numbered1) → lane < 17 → IsKept s → IsKept (turn_step i lane s turn).state
turn_kept i lane s turn lt kept =
    let turned : Turned lane (submit_in turn) s (turn_step i lane s turn).state = turn_keeps i lane s turn kept.home in
    record { home = turned.home kept.home; aloft = turned.aloft (omega (arith, lt, kept.lanes)) kept.aloft; lanes = turned.lanes ∙ kept.lanes }

turns_kept : (i : Inputs) (s : State) (ts : List Turn) → AreOfLanes 17 ts → IsKept s → IsKept (state_after s (taken i s ts))
turns_kept i s [] of kept = kept
turns_kept i s (t ∷ ts) of kept = turns_kept i (turn_step i t.lane s t.line).state ts of.1 (turn_kept i t.lane s t.line of.0 kept)

turns_numbers : (i : Inputs) (s : State) (ts : List Turn) → AreOfLanes 17 ts → IsKept s → numbers (state_after s (taken i s ts)).requests ≡ put_all (numbers s.requests) (turns_submits ts)
turns_numbers i s [] of kept = refl
turns_numbers i s (t ∷ ts) of kept =
    let u : State = (turn_step i t.lane s t.line).state in
    turns_numbers i u ts of.1 (turn_kept i t.lane s t.line of.0 kept)
    ∙ ap (λ ns. put_all ns (turns_submits ts)) (turn_keeps i t.lane s t.line kept.home).numbers ∙ sym (put_all-append (numbers s.requests) (submit_in t.line) (turns_submits ts))

-- one turn more: quiet where that is known
quiet_next : (i : Inputs) (lane l : ℕ) (turn : Option Numbered1) (s : State) (quiet : Bool) → lane < 17 → IsKept s → (quiet ≡ true → flights_of l s ≡ []) → cond (lane == l) (not (is_some turn)) quiet ≡ true
    → flights_of l (turn_step i lane s turn).state ≡ []
quiet_next i lane l turn s quiet lt kept was now =
    elim (cases_Bool (lane == l)) [
      | inl on ↦ ended turn (eqb-true lane l on) (rw on at now)
      | inr off ↦ (turn_keeps i lane s turn kept.home).other kept.home l (λ e. apart lane l (sym e) off) ∙ was (rw off at now)
    ]
  where
    apart : (a b : ℕ) → a ≡ b → (a == b) ≡ false → ⊥
    apart a b e test = let is_same : (a == b) ≡ true = eq-eqb a b e in absurd cc

    ended : (t : Option Numbered1) → lane ≡ l → not (is_some t) ≡ true → flights_of l (turn_step i lane s t).state ≡ []
    ended None here e = ap (λ n. flights_of n (turn_step i lane s None).state) (sym here) ∙ end_quiet i lane s (omega (arith, lt, kept.lanes)) kept.home
    ended (Some n) here e = absurd cc

turns_quiet : (i : Inputs) (l : ℕ) (s : State) (quiet : Bool) (ts : List Turn) → AreOfLanes 17 ts → IsKept s → (quiet ≡ true → flights_of l s ≡ []) → closes l quiet ts ≡ true → flights_of l (state_after s (taken i s ts)) ≡ []
turns_quiet i l s quiet [] of kept was closed = was closed
turns_quiet i l s quiet (t ∷ ts) of kept was closed =
    turns_quiet i l (turn_step i t.lane s t.line).state (cond (t.lane == l) (not (is_some t.line)) quiet) ts of.1 (turn_kept i t.lane s t.line of.0 kept)
    (λ now. quiet_next i t.lane l t.line s quiet of.0 kept was now) closed

-- ---- the drain

-- What holds between two rounds: besides, nothing flies, and these are the numbers.
pub record Rests (asked : List ℕ) (s : State) : Type 0 where
  pub home : AreHome s
  pub aloft : AreAloft s
  pub quiet : IsQuiet s
  pub lanes : 16 < length s.flights
  pub numbers : numbers s.requests ≡ asked

rests_stays : (asked : List ℕ) (s t : State) → Stays s t → Rests asked s → Rests asked t
rests_stays asked s t stays rests =
    let keeps : Keeps 16 s t = keeps_stays 16 s t stays in
    record {
      home = keeps.home rests.home;
      aloft = keeps.aloft rests.lanes rests.aloft;
      quiet = λ l. ap (λ (fs : List (List Flight)). get_or fs l []) stays.flights ∙ rests.quiet l;
      lanes = omega (arith, rests.lanes, keeps.lanes);
      numbers = keeps.numbers ∙ rests.numbers;
    }

sends_rests : (i : Inputs) (asked : List ℕ) (s : State) (req : ℕ) → Rests asked s → Rests asked (sends_and_finishes i s req).state
sends_rests i asked s req rests =
    let one : State = (call i drain_place s (submit req)).state in
    let first : Keeps 16 s one = keeps_call i drain_place s (submit req) tt in
    let home : AreHome one = first.home rests.home in
    let two : State = (each (call i drain_place) one (map finish (flights_of 16 one))).state in
    let second : Keeps 16 one two = keeps_each i drain_place one (map finish (flights_of 16 one)) (calls_of 16 (flights_of 16 one) (home 16)) in
    let both : Keeps 16 s two = keeps_both 16 s one two first second in
    record {
      home = both.home rests.home;
      aloft = both.aloft rests.lanes rests.aloft;
      quiet = λ l. elim (cases_eq l 16) [
        | inl same ↦ ap (λ n. flights_of n two) same ∙ all_end i drain_place one (omega (arith, rests.lanes, first.lanes)) home
        | inr apart ↦ both.other l apart ∙ rests.quiet l
      ];
      lanes = omega (arith, rests.lanes, both.lanes);
      numbers = both.numbers ∙ rests.numbers;
    }

each_rests : (i : Inputs) (asked : List ℕ) (s : State) (requests : List ℕ) → Rests asked s → Rests asked (each (sends_and_finishes i) s requests).state
each_rests i asked s [] rests = rests
each_rests i asked s (req ∷ requests) rests = each_rests i asked (sends_and_finishes i s req).state requests (sends_rests i asked s req rests)

round_rests : (i : Inputs) (asked : List ℕ) (s : State) → Rests asked s → Rests asked (round i s).state
round_rests i asked s rests = each_rests i asked (record s { waiting = [] }) s.waiting (rests_stays asked s (record s { waiting = [] }) (record { flights = refl; requests = refl }) rests)

rounds_rest : (i : Inputs) (asked : List ℕ) (n : ℕ) (first : Stepped) → Rests asked first.state → Rests asked (rounds_from i n first).state
rounds_rest i asked zero first rests = rests
rounds_rest i asked (suc n) first rests =
    elim (cases_Bool (list_any is_sent first.events)) [
      | inl on ↦ rw on (rounds_rest i asked n (round i first.state) (round_rests i asked first.state rests))
      | inr off ↦ rw off rests
    ]

reaps_rest : (asked : List ℕ) (s : State) (slots : List ℕ) → Rests asked s → Rests asked (each (λ t slot. reaped drain_place t) s slots).state
reaps_rest asked s [] rests = rests
reaps_rest asked s (slot ∷ slots) rests = reaps_rest asked (reaped drain_place s).state slots (rests_stays asked s (reaped drain_place s).state (stays_reap drain_place s).stays rests)

drain_rests : (i : Inputs) (asked : List ℕ) (s : State) → Rests asked s → Rests asked (drain i s).state
drain_rests i asked s rests =
    let t : State = (reaps s).state in
    rounds_rest i asked (most_rounds i t) (round i t) (round_rests i asked t (reaps_rest asked s s.removals rests))

-- ---- the whole run

-- the numbers that lanes submit, in order
abbrev pub submitted_by : List LanePlan → List ℕ
submitted_by plans = put_all [] (turns_submits (turns_of plans))

pub lanes_rest : (i : Inputs) (plans : List LanePlan) → length plans ≤ 16 → Rests (submitted_by plans) (state_after (opening i) (taken i (opening i) (turns_of plans)))
lanes_rest i plans few =
    let ts : List Turn = turns_of plans in
    let of : AreOfLanes 17 ts = rounds_of_lanes 17 plans (range_with_len 0 (longest plans + 1)) (omega (arith, few)) in
    let kept : IsKept (state_after (opening i) (taken i (opening i) ts)) = turns_kept i (opening i) ts of (opening_kept i) in
    record {
      home = kept.home;
      aloft = kept.aloft;
      quiet = λ l. turns_quiet i l (opening i) true ts of (opening_kept i) (λ e. opening_quiet i l) (turns_close plans l);
      lanes = omega (arith, kept.lanes);
      numbers = turns_numbers i (opening i) ts of (opening_kept i);
    }

pub run_rests : (i : Inputs) (plans : List LanePlan) → length plans ≤ 16 → Rests (submitted_by plans) (state_left i plans)
run_rests i plans few = drain_rests i (submitted_by plans) (state_after (opening i) (taken i (opening i) (turns_of plans))) (lanes_rest i plans few)

-- nobody is on the way
pub none_sent : (asked : List ℕ) (s : State) → Rests asked s → (req : ℕ) → standing req s.requests ≡ outcome.Sent → ⊥
none_sent asked s rests req sent =
    let it = rests.aloft req sent in
    let flies : has_flight req [] ≡ true = ap (has_flight req) (sym (rests.quiet it.0)) ∙ it.1 in
    absurd cc

pub run_distinct : (i : Inputs) (plans : List LanePlan) → length plans ≤ 16 → IsDistinct (submits_in plans) → IsDistinct (numbers (state_left i plans).requests)
run_distinct i plans few distinct = rw (run_rests i plans few).numbers (distinct_all (turns_submits (turns_of plans)) (fresh_turns plans distinct))

pub run_over_all : (i : Inputs) (plans : List LanePlan) → length plans ≤ 16 → IsDistinct (submits_in plans) → AllByRecursion IsOver (plain_run i plans).requests
run_over_all i plans few distinct =
    let rests : Rests (submitted_by plans) (state_left i plans) = run_rests i plans few in
    all_over (state_left i plans).requests (run_distinct i plans few distinct) (none_sent (submitted_by plans) (state_left i plans) rests)

pub run_asked : (i : Inputs) (plans : List LanePlan) → length plans ≤ 16 → (req : ℕ) → has_req req (plain_run i plans).requests ≡ has (submits_in plans) req
run_asked i plans few req =
    let rests : Rests (submitted_by plans) (state_left i plans) = run_rests i plans few in
    told_has req (state_left i plans).requests (submits_in plans) (ap (count req) rests.numbers ∙ count-all req [] (turns_submits (turns_of plans)) ∙ turns_count req plans)

pub run_numbered : (i : Inputs) (plans : List LanePlan) → length plans ≤ 16 → IsDistinct (submits_in plans) → AreNumbered (plain_run i plans).requests
run_numbered i plans few distinct =
    numbered_once (state_left i plans).requests (rw (run_rests i plans few).numbers (climbs_all [] (turns_submits (turns_of plans)) tt)) (run_distinct i plans few distinct)
