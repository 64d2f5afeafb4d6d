-- What holds of paths holds all along a run.
use Rattle.std.proofs.Common.{◌≡◌, ℕ, zero, suc, ◌+◌, ◌≤◌, ◌==◌, Bool, true, List, [], ◌∷◌, ◌++◌, inl, inr, length, map, set, Option, Some, None, refl, sym, ap, ◌∙◌, subst, arith, append-nil, append_assoc}
use Rattle.std.specs.Prelude.{Result, Ok, Err, IfSome}
use Rattle.std.specs.List.{AllByRecursion, list_any}
use Rattle.std.proofs.lemmas.Bool.{cases_Bool}
use Rattle.std.proofs.lemmas.List.Concat.{flat_map-append}
use Rattle.mp_words.specs.declared.flight.Flight.{Flight}
use Rattle.mp_words.specs.declared.row.Row.{Row}
use Rattle.mp_words.specs.declared.order.Order.{Order}
use Rattle.mp_words.specs.declared.op.Op.TheVariants as op
use Rattle.mp_words.specs.declared.op.Maker.{Maker}
use Rattle.mp_words.specs.declared.trying.Back.{Back}
use Rattle.mp_words.specs.declared.trying.Back.TheVariants.{Set, Unset}
use Rattle.mp_words.specs.declared.entry.RowEntry.{RowEntry}
use Rattle.mp_words.specs.declared.entry.OrderEntry.{OrderEntry}
use Rattle.mp_words.specs.Effect.{IsState}
use Rattle.mp_words.specs.Row.{is_given}
use Rattle.mp_words.specs.Request.{Tried, attempts_of}
use Rattle.mp_page.specs.declared.page.Page.{Page}
use Rattle.mp_page.specs.declared.page.PageError.{PageError}
use Rattle.mp_page.specs.Gifts.{page_at, state_for, stated_gift, gift_of, changing}
use Rattle.mp_script.specs.declared.script.Line.{Line}
use Rattle.mp_script.specs.declared.script.Line.TheVariants as line
use Rattle.mp_script.specs.declared.script.Numbered1.{Numbered1}
use Rattle.mp_legal.specs.Answers.{hop_statuses, class_of_hop}
use Rattle.mp_legal.specs.Fitting.{AreRead}
use Rattle.mp_legal.specs.PlainState.{State, row_at, request_of, entry_of}
use Rattle.mp_legal.specs.PlainCall.{Inputs, Call, submit, finish, add, reap, call}
use Rattle.mp_legal.specs.PlainFinish.{ended, back_of}
use Rattle.mp_legal.specs.PlainLine.{Start, start_of, turn_start, place_of, turn_step, flights_of, flights_with, by_page, adds, reads_log}
use Rattle.mp_legal.specs.PlainRun.{taken, state_after}
use Rattle.mp_legal.specs.Stepped.{Stepped, Place, each}
use Rattle.mp_legal.specs.Turns.{Turn}
use Rattle.mp_legal.specs.Drain.{drain_place, is_sent, round, rounds_from, most_rounds, reaps, sends_and_finishes, drain}
use Rattle.mp_legal.specs.RunCalls.{Called, calls_made, turn_calls, turns_calls, request_calls, requests_calls, round_calls, rounds_calls, drain_calls, rows_made, orders_made}
use Rattle.mp_legal.specs.Units.{needs, uses}
use Rattle.mp_legal.proofs.FitUnits.{uses_few}
use Rattle.mp_legal.proofs.EachCall.{all-append}
use Rattle.mp_legal.proofs.MadeCalls.{reaps_same}
use Rattle.mp_legal.proofs.RowMoves.{row_of, row_set, given_below}
use Rattle.mp_legal.proofs.FitMoves.{all_map, all_filter}
use Rattle.mp_legal.proofs.FitCalls.{FitsAt, TrailAt, Kept, Chooses, IsReady, kept_call, back_pending}

-- the trails along calls
abbrev pub Along : List Row → Order → List RowEntry → List OrderEntry → List Called → Type 0
Along first o rs os [] = Unit {0}
Along first o rs os (c ∷ cs) =
    TrailAt first o c.step.state (rs ++ c.step.rows) (os ++ c.step.orders) × Along first o (rs ++ c.step.rows)
    (os ++ c.step.orders) cs

-- paths fit before and after the call, which uses at most the units that it needs
abbrev pub FitsBoth : Called → Type 0
FitsBoth c = FitsAt c.before × FitsAt c.step.state × (uses c.done c.step ≤ needs c.done)

-- These calls lead from one state to another, and what holds of paths holds along them.
pub record Went (first : List Row) (o : Order) (s t : State) (cs : List Called) : Type 0 where
  pub fits : FitsAt t
  pub all : AllByRecursion FitsBoth cs
  pub trail : (rs : List RowEntry) (os : List OrderEntry) → TrailAt first o s rs os
      → TrailAt first o t (rs ++ rows_made cs) (os ++ orders_made cs)
  pub along : (rs : List RowEntry) (os : List OrderEntry) → TrailAt first o s rs os → Along first o rs os cs

along-append : (first : List Row) (o : Order) (rs : List RowEntry) (os : List OrderEntry) (xs ys : List Called)
    → Along first o rs os xs → Along first o (rs ++ rows_made xs) (os ++ orders_made xs) ys
    → Along first o rs os (xs ++ ys)
along-append first o rs os [] ys p q =
    subst (λ (z : List RowEntry). Along first o z os ys) (append-nil rs)
    (subst (λ (z : List OrderEntry). Along first o (rs ++ []) z ys) (append-nil os) q)
along-append first o rs os (x ∷ xs) ys p q = (
  p.0,
  along-append first o (rs ++ x.step.rows) (os ++ x.step.orders) xs ys p.1
      (subst (λ (z : List RowEntry). Along first o z ((os ++ x.step.orders) ++ orders_made xs) ys) (sym (append_assoc rs x.step.rows (rows_made xs)))
      (subst (λ (z : List OrderEntry). Along first o (rs ++ (x.step.rows ++ rows_made xs)) z ys) (sym (append_assoc os x.step.orders (orders_made xs))) q)),
)

went_both : (first : List Row) (o : Order) (s t u : State) (xs ys : List Called) → Went first o s t xs
    → Went first o t u ys → Went first o s u (xs ++ ys)
went_both first o s t u xs ys one two = record {
  fits = two.fits;
  all = all-append FitsBoth xs ys one.all two.all;
  trail = λ rs os k.
      subst (λ (z : List RowEntry). TrailAt first o u z (os ++ orders_made (xs ++ ys)))
      (append_assoc rs (rows_made xs) (rows_made ys) ∙ ap (λ (z : List RowEntry). rs ++ z) (sym (flat_map-append (λ (c : Called). c.step.rows) xs ys)))
      (subst (λ (z : List OrderEntry). TrailAt first o u ((rs ++ rows_made xs) ++ rows_made ys) z) (append_assoc os (orders_made xs) (orders_made ys) ∙ ap (λ (z : List OrderEntry). os ++ z) (sym (flat_map-append (λ (c : Called). c.step.orders) xs ys)))
      (two.trail (rs ++ rows_made xs) (os ++ orders_made xs) (one.trail rs os k)));
  along = λ rs os k. along-append first o rs os xs ys (one.along rs os k)
      (two.along (rs ++ rows_made xs) (os ++ orders_made xs) (one.trail rs os k));
}

went_none : (first : List Row) (o : Order) (s t : State) → FitsAt t
    → ((rs : List RowEntry) (os : List OrderEntry) → TrailAt first o s rs os → TrailAt first o t rs os)
    → Went first o s t []
went_none first o s t fits trail = record {
  fits = fits;
  all = tt;
  trail = λ rs os k. subst (λ (z : List RowEntry). TrailAt first o t z (os ++ [])) (sym (append-nil rs))
      (subst (λ (z : List OrderEntry). TrailAt first o t rs z) (sym (append-nil os)) (trail rs os k));
  along = λ rs os k. tt;
}

-- ---- calls

-- what these calls ask for is there when each is made
abbrev pub AreReady : Inputs → Place → State → List Call → Type 0
AreReady i at s [] = Unit {0}
AreReady i at s (c ∷ cs) = IsReady s c × AreReady i at (call i at s c).state cs

went_call : (law : Chooses) (first : List Row) (o : Order) (i : Inputs) (at : Place) (s : State) (c : Call)
    → IsReady s c → FitsAt s
    → Went first o s (call i at s c).state (record { lane = at.lane; done = c; before = s; step = call i at s c } ∷ [])
went_call law first o i at s c ready fits =
    let kept : Kept first o s (call i at s c) = kept_call law first o i at s c ready fits in
    record {
      fits = kept.fits;
      all = ((fits, kept.fits, uses_few i at s c fits), tt);
      trail =
          λ rs os k. subst
          (λ (z : List RowEntry). TrailAt first o (call i at s c).state (rs ++ z) (os ++ ((call i at s c).orders ++ [])))
          (sym (append-nil (call i at s c).rows))
          (subst (λ (z : List OrderEntry). TrailAt first o (call i at s c).state (rs ++ (call i at s c).rows) (os ++ z)) (sym (append-nil (call i at s c).orders)) (kept.trail rs os k));
      along = λ rs os k. (kept.trail rs os k, tt);
    }

pub went_calls : (law : Chooses) (first : List Row) (o : Order) (i : Inputs) (at : Place) (s : State) (cs : List Call)
    → AreReady i at s cs → FitsAt s → Went first o s (each (call i at) s cs).state (calls_made i at s cs)
went_calls law first o i at s [] ready fits = went_none first o s s fits (λ rs os k. k)
went_calls law first o i at s (c ∷ cs) ready fits =
    let t : State = (call i at s c).state in
    let one = went_call law first o i at s c ready.0 fits in
    went_both first o s t (each (call i at) t cs).state
    (record { lane = at.lane; done = c; before = s; step = call i at s c } ∷ []) (calls_made i at t cs) one
    (went_calls law first o i at t cs ready.1 one.fits)

-- a finish leaves each path
ended_given : (s : State) (f : Flight) (tries : List Tried) (statuses : List ℕ) (way : Option Back)
    → is_given (row_at s f.slot) ≡ true
    → ((entry : RowEntry) → way ≡ Some (Set entry) → (m : Maker) × (entry ≡ entry_of s f.slot op.Pending m))
    → (x : ℕ) → is_given (row_at s x) ≡ true → is_given (row_at (ended s f tries statuses way).state x) ≡ true
ended_given s f tries statuses None given pending x was = was
ended_given s f tries statuses (Some Unset) given pending x was = was
ended_given s f tries statuses (Some (Set entry)) given pending x was =
    let it = pending entry refl in
    subst (λ (e : RowEntry). is_given (row_of (set s.rows e.slot e.row) x) ≡ true) (sym it.1)
    (row_set (λ r. is_given r ≡ true) s.rows f.slot x (entry_of s f.slot op.Pending it.0).row (given_below s.rows f.slot given) (λ same. given) (λ apart. was))

finish_given : (i : Inputs) (at : Place) (s : State) (f : Flight) → is_given (row_at s f.slot) ≡ true → (x : ℕ)
    → is_given (row_at s x) ≡ true → is_given (row_at (call i at s (finish f)).state x) ≡ true
finish_given i at s f given x was =
    let tries : List Tried = (request_of s f.req).tries in
    let statuses : List ℕ = hop_statuses i.answers f.req (attempts_of tries + 1) in
    ended_given s f tries statuses (back_of at.lane s f (length tries) (class_of_hop statuses)) given
    (back_pending at.lane s f (length tries) (class_of_hop statuses)) x was

ready_finishes : (i : Inputs) (at : Place) (s : State) (fs : List Flight)
    → AllByRecursion (λ (f : Flight). is_given (row_at s f.slot) ≡ true) fs → AreReady i at s (map finish fs)
ready_finishes i at s [] all = tt
ready_finishes i at s (f ∷ fs) all =
    let t : State = (call i at s (finish f)).state in
    (all.0, ready_finishes i at t fs (all_map (λ (g : Flight). is_given (row_at s g.slot) ≡ true) (λ (g : Flight). is_given (row_at t g.slot) ≡ true) fs (λ g was. finish_given i at s f all.0 g.slot was) all.1))

ready_submits : (i : Inputs) (at : Place) (s : State) (reqs : List ℕ) → AreReady i at s (map submit reqs)
ready_submits i at s [] = tt
ready_submits i at s (r ∷ reqs) = (tt, ready_submits i at (call i at s (submit r)).state reqs)

ready_reaps : (i : Inputs) (at : Place) (s : State) (slots : List ℕ) → AreReady i at s (map (λ slot. reap) slots)
ready_reaps i at s [] = tt
ready_reaps i at s (slot ∷ slots) = (tt, ready_reaps i at (call i at s reap).state slots)

-- ---- lines

-- What a start leaves, and that its calls are ready.
record Begins (first : List Row) (o : Order) (i : Inputs) (at : Place) (s : State) (start : Start) : Type 0 where
  fits : FitsAt s → FitsAt start.state
  trail : (rs : List RowEntry) (os : List OrderEntry) → TrailAt first o s rs os → TrailAt first o start.state rs os
  ready : FitsAt s → AreReady i at start.state start.calls

begins_page : (first : List Row) (o : Order) (i : Inputs) (at : Place) (s : State) (read : Result Page PageError)
    (made : Page → Call) → ((page : Page) → read ≡ Ok page → IsReady s (made page))
    → Begins first o i at s (by_page s read made)
begins_page first o i at s (Ok page) made of = record
    { fits = λ f. f; trail = λ rs os k. k; ready = λ f. (of page refl, tt) }
begins_page first o i at s (Err error) made of = record { fits = λ f. f; trail = λ rs os k. k; ready = λ f. tt }

pub gift_state : (ctrl : ℕ) (armed : Bool) (o : Option ℕ) → IfSome o IsState → IsState (stated_gift ctrl armed o).state
gift_state ctrl armed None is = (omega arith, omega arith)
gift_state ctrl armed (Some state) is = is

pub plain_state : IsState 1
plain_state = (omega arith, omega arith)

begins_adds : (first : List Row) (o : Order) (i : Inputs) (at : Place) (s : State) (ctrl : ℕ) (box : Option ℕ)
    → AreRead i → Begins first o i at s (adds i s ctrl box)
begins_adds first o i at s ctrl None read = record
    { fits = λ f. f; trail = λ rs os k. k; ready = λ f. (plain_state, tt) }
begins_adds first o i at s ctrl (Some box) read =
    begins_page first o i at s (page_at i.pages box) (λ page. add (gift_of i.topology.nsid ctrl (Some page)))
    (λ page is. gift_state ctrl (changing page) (state_for page i.topology.nsid) (read.stated box page is))

begins_line : (first : List Row) (o : Order) (i : Inputs) (at : Place) (lane : ℕ) (s : State) (l : Line) → AreRead i
    → Begins first o i at s (start_of i lane s l)
begins_line first o i at lane s (line.Submit req node) read = record
    { fits = λ f. f; trail = λ rs os k. k; ready = λ f. (tt, tt) }
begins_line first o i at lane s (line.Finish req) read = record
    { fits = λ f. f; trail = λ rs os k. k; ready = λ f. ready_finishes i at s (flights_with req (flights_of lane s)) (all_filter (λ (g : Flight). is_given (row_at s g.slot) ≡ true) (λ g. g.req == req) (flights_of lane s) (f.flying lane)) }
begins_line first o i at lane s line.FinishAll read = record
    { fits = λ f. f; trail = λ rs os k. k; ready = λ f. ready_finishes i at s (flights_of lane s) (f.flying lane) }
begins_line first o i at lane s line.Requeue read = record
    { fits = λ f. f; trail = λ rs os k. k; ready = λ f. ready_submits i at (record s { waiting = [] }) s.waiting }
begins_line first o i at lane s (line.Log ctrl box) read =
    begins_page first o i at s (page_at i.pages box) (reads_log i.topology.nsid ctrl)
    (λ page is. read.stated box page is)
begins_line first o i at lane s (line.Ctrl ctrl to) read = record
    { fits = λ f. f; trail = λ rs os k. k; ready = λ f. (tt, tt) }
begins_line first o i at lane s (line.Anatt ctrl) read = record
    { fits = λ f. f; trail = λ rs os k. k; ready = λ f. (tt, tt) }
begins_line first o i at lane s (line.Add ctrl box) read = begins_adds first o i at s ctrl box read
begins_line first o i at lane s (line.Remove ctrl) read = record
    { fits = λ f. f; trail = λ rs os k. k; ready = λ f. (tt, tt) }
begins_line first o i at lane s line.Reap read = record { fits = λ f. f; trail = λ rs os k. k; ready = λ f. (tt, tt) }
begins_line first o i at lane s (line.Policy policy) read = record
    { fits = λ f. f; trail = λ rs os k. k; ready = λ f. (tt, tt) }

begins_turn : (first : List Row) (o : Order) (i : Inputs) (lane : ℕ) (s : State) (turn : Option Numbered1) → AreRead i
    → Begins first o i (place_of lane turn) s (turn_start i lane s turn)
begins_turn first o i lane s None read = record
    { fits = λ f. f; trail = λ rs os k. k; ready = λ f. ready_finishes i (place_of lane None) s (flights_of lane s) (f.flying lane) }
begins_turn first o i lane s (Some l) read = begins_line first o i (place_of lane (Some l)) lane s l.line read

went_turn : (law : Chooses) (first : List Row) (o : Order) (i : Inputs) (lane : ℕ) (s : State) (turn : Option Numbered1)
    → AreRead i → FitsAt s → Went first o s (turn_step i lane s turn).state (turn_calls i lane s turn)
went_turn law first o i lane s turn read fits =
    let at : Place = place_of lane turn in
    let start : Start = turn_start i lane s turn in
    let b : Begins first o i at s start = begins_turn first o i lane s turn read in
    went_both first o s start.state (each (call i at) start.state start.calls).state []
    (calls_made i at start.state start.calls) (went_none first o s start.state (b.fits fits) b.trail)
    (went_calls law first o i at start.state start.calls (b.ready fits) (b.fits fits))

went_turns : (law : Chooses) (first : List Row) (o : Order) (i : Inputs) (s : State) (ts : List Turn) → AreRead i
    → FitsAt s → Went first o s (state_after s (taken i s ts)) (turns_calls i s ts)
went_turns law first o i s [] read fits = went_none first o s s fits (λ rs os k. k)
went_turns law first o i s (t ∷ ts) read fits =
    let u : State = (turn_step i t.lane s t.line).state in
    let one = went_turn law first o i t.lane s t.line read fits in
    went_both first o s u (state_after u (taken i u ts)) (turn_calls i t.lane s t.line) (turns_calls i u ts) one
    (went_turns law first o i u ts read one.fits)

-- ---- the drain

went_request : (law : Chooses) (first : List Row) (o : Order) (i : Inputs) (s : State) (req : ℕ) → FitsAt s
    → Went first o s (sends_and_finishes i s req).state (request_calls i s req)
went_request law first o i s req fits =
    let t : State = (call i drain_place s (submit req)).state in
    let one = went_call law first o i drain_place s (submit req) tt fits in
    let fs : List Flight = flights_of 16 t in
    went_both first o s t (each (call i drain_place) t (map finish fs)).state
    (record { lane = 16; done = submit req; before = s; step = call i drain_place s (submit req) } ∷ [])
    (calls_made i drain_place t (map finish fs)) one
    (went_calls law first o i drain_place t (map finish fs) (ready_finishes i drain_place t fs (one.fits.flying 16)) one.fits)

went_requests : (law : Chooses) (first : List Row) (o : Order) (i : Inputs) (s : State) (reqs : List ℕ) → FitsAt s
    → Went first o s (each (sends_and_finishes i) s reqs).state (requests_calls i s reqs)
went_requests law first o i s [] fits = went_none first o s s fits (λ rs os k. k)
went_requests law first o i s (req ∷ reqs) fits =
    let u : State = (sends_and_finishes i s req).state in
    let one = went_request law first o i s req fits in
    went_both first o s u (each (sends_and_finishes i) u reqs).state (request_calls i s req) (requests_calls i u reqs)
    one (went_requests law first o i u reqs one.fits)

went_round : (law : Chooses) (first : List Row) (o : Order) (i : Inputs) (s : State) → FitsAt s
    → Went first o s (round i s).state (round_calls i s)
went_round law first o i s fits =
    let t : State = record s { waiting = [] } in
    went_both first o s t (each (sends_and_finishes i) t s.waiting).state [] (requests_calls i t s.waiting)
    (went_none first o s t fits (λ rs os k. k)) (went_requests law first o i t s.waiting fits)

went_rounds : (law : Chooses) (first : List Row) (o : Order) (i : Inputs) (n : ℕ) (s : State) → FitsAt s
    → Went first o s (rounds_from i n (round i s)).state (rounds_calls i n s)
went_rounds law first o i zero s fits = went_round law first o i s fits
went_rounds law first o i (suc n) s fits =
    let t : State = (round i s).state in
    let one = went_round law first o i s fits in
    elim (cases_Bool (list_any is_sent (round i s).events)) [
      | inl on ↦ rw on
          (went_both first o s t (rounds_from i n (round i t)).state (round_calls i s) (rounds_calls i n t) one (went_rounds law first o i n t one.fits))
      | inr off ↦ rw off
          (went_both first o s t t (round_calls i s) [] one (went_none first o t t one.fits (λ rs os k. k)))
    ]

went_drain : (law : Chooses) (first : List Row) (o : Order) (i : Inputs) (s : State) → FitsAt s
    → Went first o s (drain i s).state (drain_calls i s)
went_drain law first o i s fits =
    let t : State = (reaps s).state in
    let same : (each (call i drain_place) s (map (λ slot. reap) s.removals)).state ≡ t =
    ap (λ (x : Stepped). x.state) (sym (reaps_same i s s.removals)) in
    let cs : List Called = calls_made i drain_place s (map (λ slot. reap) s.removals) in
    let one : Went first o s t cs =
    subst (λ (u : State). Went first o s u cs) same
    (went_calls law first o i drain_place s (map (λ slot. reap) s.removals) (ready_reaps i drain_place s s.removals) fits) in
    went_both first o s t (rounds_from i (most_rounds i t) (round i t)).state cs (rounds_calls i (most_rounds i t) t)
    one (went_rounds law first o i (most_rounds i t) t one.fits)

-- ---- a run from a state

abbrev pub all_calls : Inputs → State → List Turn → List Called
all_calls i s ts = turns_calls i s ts ++ drain_calls i (state_after s (taken i s ts))

pub went_all : (law : Chooses) (first : List Row) (o : Order) (i : Inputs) (s : State) (ts : List Turn) → AreRead i
    → FitsAt s → Went first o s (drain i (state_after s (taken i s ts))).state (all_calls i s ts)
went_all law first o i s ts read fits =
    let t : State = state_after s (taken i s ts) in
    let one = went_turns law first o i s ts read fits in
    went_both first o s t (drain i t).state (turns_calls i s ts) (drain_calls i t) one
    (went_drain law first o i t one.fits)
