-- The calls of a run make its entries.
use Rattle.std.proofs.Common.{◌≡◌, ℕ, zero, suc, List, [], ◌∷◌, ◌++◌, inl, inr, map, Option, refl, sym, ap, ◌∙◌, append-nil}
use Rattle.std.specs.List.{list_any, flat_map, enumerate_from}
use Rattle.std.proofs.lemmas.Bool.{cases_Bool}
use Rattle.std.proofs.lemmas.List.Concat.{flat_map-append}
use Rattle.mp_words.specs.declared.entry.KeepEntry.TheVariants as keep
use Rattle.mp_words.specs.declared.entry.OrderEntry.{OrderEntry}
use Rattle.mp_words.specs.declared.entry.RowEntry.{RowEntry}
use Rattle.mp_script.specs.declared.script.LanePlan.{LanePlan}
use Rattle.mp_script.specs.declared.script.Numbered1.{Numbered1}
use Rattle.mp_legal.specs.PlainState.{State}
use Rattle.mp_legal.specs.PlainCall.{Inputs, Call, submit, finish, reap, call}
use Rattle.mp_legal.specs.PlainKeep.{reaped}
use Rattle.mp_legal.specs.PlainLine.{turn_start, place_of, turn_step, flights_of}
use Rattle.mp_legal.specs.PlainRun.{Taken, taken, state_after, plain_run, rows_in}
use Rattle.mp_legal.specs.Stepped.{Stepped, Place, joined, each}
use Rattle.mp_legal.specs.Opening.{opening, opening_entry, first_order}
use Rattle.mp_legal.specs.Turns.{Turn, turns_of}
use Rattle.mp_legal.specs.Drain.{drain_place, is_sent, round, rounds_from, most_rounds, reaps, sends_and_finishes, drain}
use Rattle.mp_legal.specs.RunCalls.{Called, calls_made, turn_calls, turns_calls, request_calls, requests_calls, round_calls, rounds_calls, drain_calls, run_calls, rows_made, orders_made}

-- These calls make the entries of a step.
pub record Makes (step : Stepped) (cs : List Called) : Type 0 where
  pub rows : step.rows ≡ rows_made cs
  pub orders : step.orders ≡ orders_made cs

makes_joined : (f g : Stepped) (xs ys : List Called) → Makes f xs → Makes g ys → Makes (joined f g) (xs ++ ys)
makes_joined f g xs ys one two = record {
  rows = (λ j. one.rows j ++ two.rows j) ∙ sym (flat_map-append (λ (c : Called). c.step.rows) xs ys);
  orders = (λ j. one.orders j ++ two.orders j) ∙ sym (flat_map-append (λ (c : Called). c.step.orders) xs ys);
}

pub makes_each : (i : Inputs) (at : Place) (s : State) (cs : List Call)
    → Makes (each (call i at) s cs) (calls_made i at s cs)
makes_each i at s [] = record { rows = refl; orders = refl }
makes_each i at s (c ∷ cs) =
    let rest = makes_each i at (call i at s c).state cs in
    record {
      rows = ap (λ (rs : List RowEntry). (call i at s c).rows ++ rs) rest.rows;
      orders = ap (λ (os : List OrderEntry). (call i at s c).orders ++ os) rest.orders;
    }

pub makes_turn : (i : Inputs) (lane : ℕ) (s : State) (turn : Option Numbered1)
    → Makes (turn_step i lane s turn) (turn_calls i lane s turn)
makes_turn i lane s turn =
    let all = makes_each i (place_of lane turn) (turn_start i lane s turn).state (turn_start i lane s turn).calls in
    record { rows = all.rows; orders = all.orders }

turns_rows : (i : Inputs) (s : State) (ts : List Turn)
    → flat_map (λ (t : Taken). t.step.rows) (taken i s ts) ≡ rows_made (turns_calls i s ts)
turns_rows i s [] = refl
turns_rows i s (t ∷ ts) =
    let u : State = (turn_step i t.lane s t.line).state in
    (λ j. (makes_turn i t.lane s t.line).rows j ++ turns_rows i u ts j) ∙ sym
    (flat_map-append (λ (c : Called). c.step.rows) (turn_calls i t.lane s t.line) (turns_calls i u ts))

turns_orders : (i : Inputs) (s : State) (ts : List Turn)
    → flat_map (λ (t : Taken). t.step.orders) (taken i s ts) ≡ orders_made (turns_calls i s ts)
turns_orders i s [] = refl
turns_orders i s (t ∷ ts) =
    let u : State = (turn_step i t.lane s t.line).state in
    (λ j. (makes_turn i t.lane s t.line).orders j ++ turns_orders i u ts j) ∙ sym
    (flat_map-append (λ (c : Called). c.step.orders) (turn_calls i t.lane s t.line) (turns_calls i u ts))

-- the reaps of the drain are calls
pub reaps_same : (i : Inputs) (s : State) (slots : List ℕ)
    → each (λ t slot. reaped drain_place t) s slots ≡ each (call i drain_place) s (map (λ slot. reap) slots)
reaps_same i s [] = refl
reaps_same i s (slot ∷ slots) =
    ap (λ (x : Stepped). joined (reaped drain_place s) x) (reaps_same i (reaped drain_place s).state slots)

makes_request : (i : Inputs) (s : State) (req : ℕ) → Makes (sends_and_finishes i s req) (request_calls i s req)
makes_request i s req =
    let t : State = (call i drain_place s (submit req)).state in
    let rest = makes_each i drain_place t (map finish (flights_of 16 t)) in
    record {
      rows = ap (λ (rs : List RowEntry). (call i drain_place s (submit req)).rows ++ rs) rest.rows;
      orders = ap (λ (os : List OrderEntry). (call i drain_place s (submit req)).orders ++ os) rest.orders;
    }

makes_requests : (i : Inputs) (s : State) (requests : List ℕ)
    → Makes (each (sends_and_finishes i) s requests) (requests_calls i s requests)
makes_requests i s [] = record { rows = refl; orders = refl }
makes_requests i s (req ∷ requests) =
    let u : State = (sends_and_finishes i s req).state in
    makes_joined (sends_and_finishes i s req) (each (sends_and_finishes i) u requests) (request_calls i s req)
    (requests_calls i u requests) (makes_request i s req) (makes_requests i u requests)

makes_round : (i : Inputs) (s : State) → Makes (round i s) (round_calls i s)
makes_round i s =
    let all = makes_requests i (record s { waiting = [] }) s.waiting in
    record { rows = all.rows; orders = all.orders }

makes_rounds : (i : Inputs) (n : ℕ) (s : State) → Makes (rounds_from i n (round i s)) (rounds_calls i n s)
makes_rounds i zero s = makes_round i s
makes_rounds i (suc n) s =
    let first : Stepped = round i s in
    let more : Stepped = rounds_from i n (round i first.state) in
    elim (cases_Bool (list_any is_sent first.events)) [
      | inl on ↦ rw on
          (makes_joined first more (round_calls i s) (rounds_calls i n first.state) (makes_round i s) (makes_rounds i n first.state))
      | inr off ↦ rw off
          (let one = makes_round i s in record { rows = one.rows ∙ ap rows_made (sym (append-nil (round_calls i s))); orders = one.orders ∙ ap orders_made (sym (append-nil (round_calls i s))) })
    ]

makes_reaps : (i : Inputs) (s : State) (slots : List ℕ)
    → Makes (each (λ t slot. reaped drain_place t) s slots) (calls_made i drain_place s (map (λ slot. reap) slots))
makes_reaps i s slots = rw (reaps_same i s slots) (makes_each i drain_place s (map (λ slot. reap) slots))

pub makes_drain : (i : Inputs) (s : State) → Makes (drain i s) (drain_calls i s)
makes_drain i s =
    let t : State = (reaps s).state in
    makes_joined (reaps s) (rounds_from i (most_rounds i t) (round i t))
    (calls_made i drain_place s (map (λ slot. reap) s.removals)) (rounds_calls i (most_rounds i t) t)
    (makes_reaps i s s.removals) (makes_rounds i (most_rounds i t) t)

pub run_rows : (i : Inputs) (lanes : List LanePlan)
    → (plain_run i lanes).rows ≡ map (rows_in (rows_made (run_calls i lanes))) (map opening_entry (enumerate_from 0 (opening i).rows))
run_rows i lanes =
    let ts : List Turn = turns_of lanes in
    let s : State = state_after (opening i) (taken i (opening i) ts) in
    let all : flat_map (λ (t : Taken). t.step.rows) (taken i (opening i) ts) ++ (drain i s).rows ≡ rows_made
    (run_calls i lanes) =
    (λ j. turns_rows i (opening i) ts j ++ (makes_drain i s).rows j) ∙ sym
    (flat_map-append (λ (c : Called). c.step.rows) (turns_calls i (opening i) ts) (drain_calls i s)) in
    ap (λ (made : List RowEntry). map (rows_in made) (map opening_entry (enumerate_from 0 (opening i).rows))) all

pub run_orders : (i : Inputs) (lanes : List LanePlan)
    → (plain_run i lanes).keeping ≡ map keep.Order (first_order i ∷ orders_made (run_calls i lanes))
run_orders i lanes =
    let ts : List Turn = turns_of lanes in
    let s : State = state_after (opening i) (taken i (opening i) ts) in
    let all : flat_map (λ (t : Taken). t.step.orders) (taken i (opening i) ts) ++ (drain i s).orders ≡ orders_made
    (run_calls i lanes) =
    (λ j. turns_orders i (opening i) ts j ++ (makes_drain i s).orders j) ∙ sym
    (flat_map-append (λ (c : Called). c.step.orders) (turns_calls i (opening i) ts) (drain_calls i s)) in
    ap (λ (made : List OrderEntry). map keep.Order (first_order i ∷ made)) all
