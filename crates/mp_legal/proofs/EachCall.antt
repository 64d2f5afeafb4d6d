-- What every call does, whatever the state.
use Rattle.std.proofs.Common.{◌≡◌, ℕ, zero, suc, ◌+◌, ◌==◌, ◌&&◌, not, Bool, true, false, List, [], ◌∷◌, ◌++◌, inl, inr, map, Option, Some, None, refl, sym, ap, ◌∙◌, subst, length, if◌then◌else◌}
use Rattle.std.specs.Prelude.{find, filter, Result, Ok, Err}
use Rattle.std.specs.List.{list_any, AllByRecursion}
use Rattle.std.proofs.lemmas.Bool.{cases_Bool, eqb-true}
use Rattle.mp_words.specs.declared.op.Op.{Op}
use Rattle.mp_words.specs.declared.op.Op.TheVariants as op
use Rattle.mp_words.specs.declared.op.Gift.{Gift}
use Rattle.mp_words.specs.declared.op.Effect.{Effect}
use Rattle.mp_words.specs.declared.op.Effect.TheVariants as effect
use Rattle.mp_words.specs.declared.path.Path.{Path}
use Rattle.mp_words.specs.declared.flight.Flight.{Flight}
use Rattle.mp_words.specs.declared.trying.Back.{Back}
use Rattle.mp_words.specs.declared.trying.Back.TheVariants.{Set, Unset}
use Rattle.mp_words.specs.declared.op.Maker.TheVariants.{Hop}
use Rattle.mp_words.specs.declared.entry.RowEntry.{RowEntry}
use Rattle.mp_words.specs.Effect.{effect_of}
use Rattle.mp_words.specs.Order.{slots_of}
use Rattle.mp_words.specs.PathTable.{has_ctrl}
use Rattle.mp_record.specs.declared.event.Event.{Event}
use Rattle.mp_status.specs.declared.class.Class.{Class}
use Rattle.mp_status.specs.declared.class.Class.TheVariants.{Complete, Failover, Retry}
use Rattle.mp_script.specs.declared.script.LanePlan.{LanePlan}
use Rattle.mp_script.specs.declared.script.Numbered1.{Numbered1}
use Rattle.mp_legal.specs.Answers.{hop_statuses, class_of_hop, through_first}
use Rattle.mp_legal.specs.Fitting.{FreesIdle, TellsFlips}
use Rattle.mp_words.specs.Request.{Tried, attempts_of}
use Rattle.mp_legal.specs.PlainState.{State, request_of, row_at, entry_of, depth_of, paths_of}
use Rattle.mp_legal.specs.PlainCall.{Inputs, Call, submit, finish, change, add, remove, set_policy, reap, call}
use Rattle.mp_legal.specs.PlainChange.{changed_by, changed_path}
use Rattle.mp_legal.specs.PlainFinish.{back_of, entries_of, pending_or_not}
use Rattle.mp_legal.specs.PlainKeep.{slot_with, free_slot, given_in, given_unless, marked, is_among, unlisted, freed, freed_or_again, reaped_from, is_idle}
use Rattle.mp_page.specs.declared.page.Page.{Page}
use Rattle.mp_page.specs.declared.page.PageError.{PageError}
use Rattle.mp_page.specs.Gifts.{page_at, gift_of}
use Rattle.mp_script.specs.declared.script.Line.{Line}
use Rattle.mp_script.specs.declared.script.Line.TheVariants as line
use Rattle.mp_legal.specs.PlainLine.{Start, start_of, turn_start, place_of, turn_step, flights_of, flights_with, by_page, adds, reads_log}
use Rattle.mp_legal.specs.PlainRun.{taken, state_after}
use Rattle.mp_legal.specs.Stepped.{Stepped, Place, and_then, each}
use Rattle.mp_legal.specs.Opening.{opening}
use Rattle.mp_legal.specs.Turns.{Turn, turns_of}
use Rattle.mp_legal.specs.Drain.{drain_place, is_sent, round, most_rounds, reaps, sends_and_finishes}
use Rattle.mp_legal.specs.RunCalls.{Called, called, calls_made, turn_calls, turns_calls, request_calls, requests_calls, round_calls, rounds_calls, drain_calls, run_calls}

-- ---- what lines ask for

-- no line asks for a free slot by a row change
abbrev pub IsAsked : Call → Type 0
IsAsked (change ctrl o) = o ≡ op.Free → ⊥
IsAsked (submit req) = Unit {0}
IsAsked (finish f) = Unit {0}
IsAsked (add gift) = Unit {0}
IsAsked (remove ctrl) = Unit {0}
IsAsked (set_policy policy) = Unit {0}
IsAsked reap = Unit {0}

asked_finishes : (fs : List Flight) → AllByRecursion IsAsked (map finish fs)
asked_finishes [] = tt
asked_finishes (f ∷ fs) = (tt, asked_finishes fs)

asked_submits : (reqs : List ℕ) → AllByRecursion IsAsked (map submit reqs)
asked_submits [] = tt
asked_submits (r ∷ reqs) = (tt, asked_submits reqs)

asked_reaps : (slots : List ℕ) → AllByRecursion IsAsked (map (λ slot. reap) slots)
asked_reaps [] = tt
asked_reaps (slot ∷ slots) = (tt, asked_reaps slots)

asked_page : (s : State) (read : Result Page PageError) (made : Page → Call) → ((page : Page) → IsAsked (made page))
    → AllByRecursion IsAsked (by_page s read made).calls
asked_page s (Ok page) made of = (of page, tt)
asked_page s (Err error) made of = tt

asked_adds : (i : Inputs) (s : State) (ctrl : ℕ) (box : Option ℕ) → AllByRecursion IsAsked (adds i s ctrl box).calls
asked_adds i s ctrl None = (tt, tt)
asked_adds i s ctrl (Some box) =
    asked_page s (page_at i.pages box) (λ page. add (gift_of i.topology.nsid ctrl (Some page))) (λ page. tt)

asked_line : (i : Inputs) (lane : ℕ) (s : State) (l : Line) → AllByRecursion IsAsked (start_of i lane s l).calls
asked_line i lane s (line.Submit req node) = (tt, tt)
asked_line i lane s (line.Finish req) = asked_finishes (flights_with req (flights_of lane s))
asked_line i lane s line.FinishAll = asked_finishes (flights_of lane s)
asked_line i lane s line.Requeue = asked_submits s.waiting
asked_line i lane s (line.Log ctrl box) =
    asked_page s (page_at i.pages box) (reads_log i.topology.nsid ctrl) (λ page e. absurd cc)
asked_line i lane s (line.Ctrl ctrl cstate) = ((λ e. absurd cc), tt)
asked_line i lane s (line.Anatt ctrl) = ((λ e. absurd cc), tt)
asked_line i lane s (line.Add ctrl box) = asked_adds i s ctrl box
asked_line i lane s (line.Remove ctrl) = (tt, tt)
asked_line i lane s line.Reap = (tt, tt)
asked_line i lane s (line.Policy policy) = (tt, tt)

asked_turn : (i : Inputs) (lane : ℕ) (s : State) (turn : Option Numbered1)
    → AllByRecursion IsAsked (turn_start i lane s turn).calls
asked_turn i lane s None = asked_finishes (flights_of lane s)
asked_turn i lane s (Some l) = asked_line i lane s l.line

-- ---- what holds of each call holds of all calls of a run

-- the fact holds of each call that is asked for
abbrev pub OfEach : (Called → Type 0) → Inputs → Type 0
OfEach P i = (at : Place) (s : State) (c : Call) → IsAsked c → P (called i at s c)

pub all-append : {X : Type 0} (P : X → Type 0) (xs ys : List X) → AllByRecursion P xs → AllByRecursion P ys
    → AllByRecursion P (xs ++ ys)
all-append P [] ys p q = q
all-append P (x ∷ xs) ys p q = (p.0, all-append P xs ys p.1 q)

of_made : (P : Called → Type 0) (i : Inputs) (at : Place) (s : State) (cs : List Call) → AllByRecursion IsAsked cs
    → OfEach P i → AllByRecursion P (calls_made i at s cs)
of_made P i at s [] asked of = tt
of_made P i at s (c ∷ cs) asked of = (of at s c asked.0, of_made P i at (call i at s c).state cs asked.1 of)

of_turns : (P : Called → Type 0) (i : Inputs) (s : State) (ts : List Turn) → OfEach P i
    → AllByRecursion P (turns_calls i s ts)
of_turns P i s [] of = tt
of_turns P i s (t ∷ ts) of =
    let start : Start = turn_start i t.lane s t.line in
    let u : State = (turn_step i t.lane s t.line).state in
    all-append P (turn_calls i t.lane s t.line) (turns_calls i u ts)
    (of_made P i (place_of t.lane t.line) start.state start.calls (asked_turn i t.lane s t.line) of)
    (of_turns P i u ts of)

of_request : (P : Called → Type 0) (i : Inputs) (s : State) (req : ℕ) → OfEach P i
    → AllByRecursion P (request_calls i s req)
of_request P i s req of =
    let t : State = (call i drain_place s (submit req)).state in
    (of drain_place s (submit req) tt, of_made P i drain_place t (map finish (flights_of 16 t)) (asked_finishes (flights_of 16 t)) of)

of_requests : (P : Called → Type 0) (i : Inputs) (s : State) (requests : List ℕ) → OfEach P i
    → AllByRecursion P (requests_calls i s requests)
of_requests P i s [] of = tt
of_requests P i s (req ∷ requests) of =
    let u : State = (sends_and_finishes i s req).state in
    all-append P (request_calls i s req) (requests_calls i u requests) (of_request P i s req of)
    (of_requests P i u requests of)

of_rounds : (P : Called → Type 0) (i : Inputs) (n : ℕ) (s : State) → OfEach P i → AllByRecursion P (rounds_calls i n s)
of_rounds P i zero s of = of_requests P i (record s { waiting = [] }) s.waiting of
of_rounds P i (suc n) s of =
    let here : AllByRecursion P (round_calls i s) = of_requests P i (record s { waiting = [] }) s.waiting of in
    elim (cases_Bool (list_any is_sent (round i s).events)) [
      | inl on ↦ rw on
          (all-append P (round_calls i s) (rounds_calls i n (round i s).state) here (of_rounds P i n (round i s).state of))
      | inr off ↦ rw off (all-append P (round_calls i s) [] here tt)
    ]

pub of_run : (P : Called → Type 0) (i : Inputs) (lanes : List LanePlan) → OfEach P i
    → AllByRecursion P (run_calls i lanes)
of_run P i lanes of =
    let s : State = state_after (opening i) (taken i (opening i) (turns_of lanes)) in
    all-append P (turns_calls i (opening i) (turns_of lanes)) (drain_calls i s)
    (of_turns P i (opening i) (turns_of lanes) of)
    (all-append P (calls_made i drain_place s (map (λ slot. reap) s.removals)) (rounds_calls i (most_rounds i (reaps s).state) (reaps s).state)
    (of_made P i drain_place s (map (λ slot. reap) s.removals) (asked_reaps s.removals) of) (of_rounds P i (most_rounds i (reaps s).state) (reaps s).state of))

-- ---- a freed slot is idle, and tells the flips

-- What a step frees is idle before it, and what it says of flips is their number.
record Good (before : State) (step : Stepped) : Type 0 where
  idle : AllByRecursion (FreesIdle before) step.rows
  tells : AllByRecursion (TellsFlips step.state.flips) step.events

good_set : (lane : ℕ) (s t : State) (f : Flight) (b : Back) (hop : ℕ) (ana : Bool) → pending_or_not lane s f hop ana ≡ b
    → AllByRecursion (FreesIdle t) (entries_of (Some b))
good_set lane s t f Unset hop ana e = tt
good_set lane s t f (Set entry) hop ana e =
    ((λ frees. absurd (never ((ana) && (row_at s f.slot).ana) entry e frees)), tt)
  where
    never : (b : Bool) (entry : RowEntry)
        → (if b then Set (entry_of s f.slot op.Pending (Hop lane f.req hop)) else Unset) ≡ Set entry
        → entry.op ≡ op.Free → ⊥
    never true entry e frees = cc
    never false entry e frees = cc

good_back : (s t : State) (lane : ℕ) (f : Flight) (hop : ℕ) (c : Class)
    → AllByRecursion (FreesIdle t) (entries_of (back_of lane s f hop c))
good_back s t lane f hop Complete = tt
good_back s t lane f hop Retry = tt
good_back s t lane f hop (Failover ana) = good_set lane s t f (pending_or_not lane s f hop ana) hop ana refl

good_changed : (at : Place) (s : State) (path : Path) (o : Op) (e : Effect) → (o ≡ op.Free → ⊥)
    → Good s (changed_by at s path o e)
good_changed at s path o (effect.Changed row) no_free = record
    { idle = ((λ frees. absurd (no_free frees)), tt); tells = (tt, tt) }
good_changed at s path o (effect.Refused cstate) no_free = record { idle = tt; tells = (tt, tt) }
good_changed at s path o effect.NotArmed no_free = record { idle = tt; tells = (tt, tt) }

good_change : (at : Place) (s : State) (o : Op) (found : Option Path) → (o ≡ op.Free → ⊥)
    → Good s (changed_path at s o found)
good_change at s o None no_free = record { idle = tt; tells = (tt, tt) }
good_change at s o (Some path) no_free = good_changed at s path o (effect_of path.row o) no_free

good_given : (at : Place) (s : State) (gift : Gift) (o : Option ℕ) → Good s (given_in at s gift o)
good_given at s gift None = record { idle = tt; tells = (tt, tt) }
good_given at s gift (Some slot) =
    elim (cases_Bool (s.order.len == 8)) [
      | inl full ↦ rw full (record { idle = tt; tells = (tt, tt) })
      | inr room ↦ rw room (record { idle = ((λ frees. absurd (never gift frees)), tt); tells = (tt, tt) })
    ]
  where
    never : (g : Gift) → op.Give g ≡ op.Free → ⊥
    never g e = cc

good_added : (at : Place) (s : State) (gift : Gift) (o : Option ℕ) → Good s (given_unless at s gift o)
good_added at s gift (Some slot) = record { idle = tt; tells = (tt, tt) }
good_added at s gift None = good_given at s gift (free_slot s)

good_marked : (at : Place) (s : State) (o : Option Path) → Good s (marked at s o)
good_marked at s None = record { idle = tt; tells = (tt, tt) }
good_marked at s (Some path) = record { idle = ((λ frees. absurd (never frees)), tt); tells = (tt, tt) }
  where
    never : op.Mark ≡ op.Free → ⊥
    never e = cc

-- unlistings leave the flights, and say nothing
pub record Unlists (s : State) (step : Stepped) : Type 0 where
  pub flights : step.state.flights ≡ s.flights
  pub rows : step.rows ≡ []
  pub events : step.events ≡ []

pub unlists_each : (at : Place) (s : State) (slots : List ℕ) → Unlists s (each (unlisted at) s slots)
unlists_each at s [] = record { flights = refl; rows = refl; events = refl }
unlists_each at s (slot ∷ slots) = let rest = unlists_each at (unlisted at s slot).state slots in record
    { flights = rest.flights; rows = rest.rows; events = rest.events }

pub found_idle : (s : State) (slots : List ℕ) (slot : ℕ) → find (is_idle s) slots ≡ Some slot → depth_of s slot ≡ 0
found_idle s [] slot is = absurd cc
found_idle s (x ∷ slots) slot is =
    elim (cases_Bool (is_idle s x)) [
      | inl hit ↦ let e : Some x ≡ Some slot = rw hit at is in let same : x ≡ slot = cc in ap (depth_of s) (sym same)
          ∙ eqb-true (depth_of s x) 0 hit
      | inr miss ↦ found_idle s slots slot (rw miss at is)
    ]

good_freed : (at : Place) (oldest : ℕ) (s : State) (before : Stepped) (o : Option ℕ) → Unlists s before
    → ((slot : ℕ) → o ≡ Some slot → depth_of s slot ≡ 0) → Good s (and_then before (freed_or_again at oldest o))
good_freed at oldest s before None un idle = record {
  idle = subst (λ (rs : List RowEntry). AllByRecursion (FreesIdle s) (rs ++ [])) (sym un.rows) tt;
  tells = subst
      (λ (es : List Event). AllByRecursion (TellsFlips before.state.flips) (es ++ (freed_or_again at oldest None before.state).events))
      (sym un.events) (tt, tt);
}
good_freed at oldest s before (Some slot) un idle = record {
  idle = subst (λ (rs : List RowEntry). AllByRecursion (FreesIdle s) (rs ++ (freed at before.state slot).rows))
      (sym un.rows) ((λ frees. idle slot refl), tt);
  tells = subst
      (λ (es : List Event). AllByRecursion (TellsFlips before.state.flips) (es ++ (freed at before.state slot).events))
      (sym un.events) (refl, tt);
}

good_reaped : (at : Place) (s : State) (slots : List ℕ) → Good s (reaped_from at s slots)
good_reaped at s [] = record { idle = tt; tells = (tt, tt) }
good_reaped at s (oldest ∷ others) =
    let gone : List ℕ = filter (is_among (slots_of s.order)) (through_first (is_idle s) (oldest ∷ others)) in
    good_freed at oldest s (each (unlisted at) s gone) (find (is_idle s) (oldest ∷ others)) (unlists_each at s gone)
    (λ slot is. found_idle s (oldest ∷ others) slot is)

good_call : (i : Inputs) (at : Place) (s : State) (c : Call) → IsAsked c → Good s (call i at s c)
good_call i at s (submit req) asked = record { idle = tt; tells = (tt, tt) }
good_call i at s (finish f) asked =
    let tries : List Tried = (request_of s f.req).tries in
    record
    { idle = good_back s s at.lane f (length tries) (class_of_hop (hop_statuses i.answers f.req (attempts_of tries + 1))); tells = (tt, tt) }
good_call i at s (change ctrl o) asked = good_change at s o (find (has_ctrl ctrl) (paths_of s)) asked
good_call i at s (add gift) asked = good_added at s gift (slot_with s gift.ctrl)
good_call i at s (remove ctrl) asked =
    good_marked at s (find (λ path. has_ctrl ctrl path && not (is_among s.removals path.slot)) (paths_of s))
good_call i at s (set_policy policy) asked = record { idle = tt; tells = (tt, tt) }
good_call i at s reap asked = good_reaped at s s.removals

pub run_idle : (i : Inputs) (lanes : List LanePlan)
    → AllByRecursion (λ c. AllByRecursion (FreesIdle c.before) c.step.rows) (run_calls i lanes)
run_idle i lanes =
    of_run (λ c. AllByRecursion (FreesIdle c.before) c.step.rows) i lanes
    (λ at s c asked. (good_call i at s c asked).idle)

pub run_tells : (i : Inputs) (lanes : List LanePlan)
    → AllByRecursion (λ c. AllByRecursion (TellsFlips c.step.state.flips) c.step.events) (run_calls i lanes)
run_tells i lanes =
    of_run (λ c. AllByRecursion (TellsFlips c.step.state.flips) c.step.events) i lanes
    (λ at s c asked. (good_call i at s c asked).tells)
