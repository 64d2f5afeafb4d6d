-- Turns that are taken one by one.
use Rattle.std.proofs.Common.{[], ◌≡◌, ◌≢◌, ℕ, ◌<◌, Bool, true, false, ◌==◌, ◌||◌, List, ◌∷◌, ◌++◌, inl, inr, map, length, get_or, set, None, refl, sym, ap, ◌∙◌, append_assoc, eq-eqb}
use Rattle.std.specs.List.{flat_map}
use Rattle.std.proofs.lemmas.Bool.{cases_Bool, eqb-true}
use Rattle.std.proofs.lemmas.List.{get_or-set_same, get_or-set_other}
use Rattle.mp_checks.specs.Marks.{has}
use Rattle.mp_words.specs.Request.{Asked, Tried}
use Rattle.mp_record.specs.declared.event.Event.{Event}
use Rattle.mp_legal.specs.PlainState.{with_tries}
use Rattle.mp_legal.specs.PlainCall.{Inputs}
use Rattle.mp_legal.specs.PlainRun.{Taken, events_in}
use Rattle.mp_legal.specs.Turns.{Turn}
use Rattle.mp_legal.specs.Units.{Paid, pay_turn}
use Rattle.mp_legal.specs.Numbers.{has_req}
use Rattle.mp_script.specs.Distinct.{IsDistinct}
use Rattle.mp_run.specs.OnTurns.{Stage, turns_from, IsOn}
use Rattle.mp_run.proofs.Distinct.{has-reqs}
use Rattle.mp_run.proofs.Changes.{not_true}

-- what a turn leads to
pub record Leads (p : Paid) (lane : ℕ) (now after : Stage) (before events : List Event) : Type 0 where
  pub state : after.state ≡ p.step.state
  pub lefts : after.lefts ≡ set now.lefts lane p.left
  pub rows : after.rows ≡ now.rows ++ p.step.rows
  pub orders : after.orders ≡ now.orders ++ p.step.orders
  pub lanes : after.lanes ≡ set now.lanes lane events
  pub was : before ≡ get_or now.lanes lane []
  pub noted : events ≡ before ++ p.step.events

-- one turn is taken
pub leads_on : (i : Inputs) (all rest : List Turn) (turn : Turn) (start now after : Stage) (before events : List Event) → IsOn i all (turn ∷ rest) start now → turn.lane < length now.lanes
    → Leads (pay_turn i turn.lane now.state turn.line (get_or now.lefts turn.lane None)) turn.lane now after before events → IsOn i all rest start after
leads_on i all rest turn start now after before events on lt leads =
    let p : Paid = pay_turn i turn.lane now.state turn.line (get_or now.lefts turn.lane None) in
    let next : Stage = record { state = p.step.state; lefts = set now.lefts turn.lane p.left; rows = now.rows ++ p.step.rows; orders = now.orders ++ p.step.orders; lanes = set now.lanes turn.lane events } in
    let same : after ≡ next = rw (leads.state, leads.lefts, leads.rows, leads.orders, leads.lanes) refl in
    let ts : List Taken = (turns_from i next rest).taken in
    let is_on : IsOn i all rest start next = record {
      state = on.state;
      lefts = on.lefts;
      rows = append_assoc now.rows p.step.rows (flat_map (λ (x : Taken). x.step.rows) ts) ∙ on.rows;
      orders = append_assoc now.orders p.step.orders (flat_map (λ (x : Taken). x.step.orders) ts) ∙ on.orders;
      noted = λ lane. elim (cases_Bool (turn.lane == lane)) [
        | inl same_one ↦ let here : turn.lane ≡ lane = eqb-true turn.lane lane same_one in
            let new : get_or (set now.lanes turn.lane events) lane [] ≡ get_or now.lanes lane [] ++ p.step.events =
            ap (λ n. get_or (set now.lanes turn.lane events) n []) (sym here) ∙ get_or-set_same now.lanes turn.lane events [] lt ∙ leads.noted ∙ ap (λ (es : List Event). es ++ p.step.events) (leads.was ∙ ap (λ n. get_or now.lanes n []) here) in
            ap (λ (es : List Event). es ++ events_in ts lane) new ∙ append_assoc (get_or now.lanes lane []) p.step.events (events_in ts lane) ∙ rw same_one at (on.noted lane)
        | inr other ↦ let apart : lane ≢ turn.lane = λ e. differs turn.lane lane (sym e) other in
            ap (λ (es : List Event). es ++ events_in ts lane) (get_or-set_other now.lanes turn.lane lane events [] apart) ∙ rw other at (on.noted lane)
      ];
    } in
    rw same is_on
  where
    differs : (a b : ℕ) → a ≡ b → (a == b) ≡ false → ⊥
    differs a b e test = let is : (a == b) ≡ true = eq-eqb a b e in cc

-- ---- the numbers of requests

abbrev pub numbers : List Asked → List ℕ
numbers requests = map (λ a. a.req) requests

pub numbers-tries : (req : ℕ) (tries : List Tried) (requests : List Asked) → numbers (with_tries req tries requests) ≡ numbers requests
numbers-tries req tries [] = refl
numbers-tries req tries (a ∷ requests) =
    elim (cases_Bool (a.req == req)) [
      | inl on ↦ rw on (ap (λ ns. a.req ∷ ns) (numbers-tries req tries requests))
      | inr off ↦ rw off (ap (λ ns. a.req ∷ ns) (numbers-tries req tries requests))
    ]

-- what is in the second part isn't in the first
pub distinct_apart : (xs ys : List ℕ) (n : ℕ) → IsDistinct (xs ++ ys) → has ys n ≡ true → has xs n ≡ false
distinct_apart [] ys n d e = refl
distinct_apart (x ∷ xs) ys n d e =
    let rest : has xs n ≡ false = distinct_apart xs ys n d.1 e in
    let first : (x == n) ≡ false = not_true (x == n) (λ same. let here : x ≡ n = eqb-true x n same in let there : has (xs ++ ys) x ≡ true = has_later xs ys x (ap (has ys) here ∙ e) in let no_one = d.0 in cc) in
    rw (first, rest) refl
  where
    has_later : (xs ys : List ℕ) (n : ℕ) → has ys n ≡ true → has (xs ++ ys) n ≡ true
    has_later [] ys n e = e
    has_later (x ∷ xs) ys n e = later (x == n) (has (xs ++ ys) n) (has_later xs ys n e)
      where
        later : (a b : Bool) → b ≡ true → (a || b) ≡ true
        later true b e = refl
        later false b e = e

pub fresh_in : (requests : List Asked) (mine rest : List ℕ) (req : ℕ) → IsDistinct (numbers requests ++ (mine ++ rest)) → has mine req ≡ true → has_req req requests ≡ false
fresh_in requests mine rest req d e = sym (has-reqs requests req) ∙ distinct_apart (numbers requests) (mine ++ rest) req d (has_front mine rest req e)
  where
    has_front : (xs ys : List ℕ) (n : ℕ) → has xs n ≡ true → has (xs ++ ys) n ≡ true
    has_front [] ys n e = absurd cc
    has_front (x ∷ xs) ys n e = front (x == n) (has xs n) (has (xs ++ ys) n) (has_front xs ys n) e
      where
        front : (a b c : Bool) → (b ≡ true → c ≡ true) → (a || b) ≡ true → (a || c) ≡ true
        front true b c f e = refl
        front false b c f e = f e
