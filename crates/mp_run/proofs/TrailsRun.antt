-- What a whole run leaves of tries, and tells of them.
use Rattle.std.proofs.Common.{[], ◌≡◌, ℕ, zero, suc, ◌+◌, ◌<◌, ◌≤◌, Bool, true, false, ◌&&◌, ◌||◌, ◌==◌, cond, List, ◌∷◌, ◌++◌, inl, inr, map, length, replicate, Option, Some, None, refl, sym, ap, ◌∙◌, append_assoc, append-nil, subst, eq-eqb, arith}
use Rattle.std.specs.Prelude.{Result, Ok, Err, count_by, is_some}
use Rattle.std.specs.List.{last_or, list_any, flat_map, range_with_len, AllByRecursion}
use Rattle.std.proofs.lemmas.Bool.{cases_Bool}
use Rattle.std.proofs.lemmas.Bool.Decides.{nat_tests}
use Rattle.std.proofs.lemmas.List.{length-replicate}
use Rattle.std.proofs.lemmas.List.Sums.{sum_by-cons}
use Rattle.mp_checks.specs.Marks.{has}
use Rattle.mp_words.specs.declared.answers.Answer.{Answer}
use Rattle.mp_words.specs.declared.flight.Flight.{Flight}
use Rattle.mp_words.specs.declared.op.Op.TheVariants as op
use Rattle.mp_words.specs.Request.{Asked, Tried, outcome_of}
use Rattle.mp_record.specs.declared.event.Event.{Event}
use Rattle.mp_record.specs.declared.event.Event.TheVariants.{At}
use Rattle.mp_record.specs.declared.event.Said.{Said}
use Rattle.mp_record.specs.declared.event.Said.TheVariants as said
use Rattle.mp_page.specs.declared.page.Page.{Page}
use Rattle.mp_page.specs.declared.page.PageError.{PageError}
use Rattle.mp_page.specs.Gifts.{page_at, gift_of, state_for, changing}
use Rattle.mp_script.specs.declared.script.LanePlan.{LanePlan}
use Rattle.mp_script.specs.declared.script.Line.{Line}
use Rattle.mp_script.specs.declared.script.Line.TheVariants as line
use Rattle.mp_script.specs.declared.script.Numbered1.{Numbered1}
use Rattle.mp_script.specs.Distinct.{IsDistinct}
use Rattle.mp_script.specs.Facts.{submit_of, submits_in}
use Rattle.mp_legal.specs.PlainState.{State}
use Rattle.mp_legal.specs.PlainCall.{Inputs, Call, submit, finish, change, add, remove, set_policy, reap, call}
use Rattle.mp_legal.specs.PlainKeep.{reaped}
use Rattle.mp_legal.specs.PlainLine.{Start, start_of, turn_start, place_of, opens, runs, turn_step, flights_of, flights_with, by_page, adds, reads_log, finishes}
use Rattle.mp_legal.specs.PlainRun.{Taken, taken, state_after, events_in, plain_run, state_left}
use Rattle.mp_legal.specs.Opening.{opening}
use Rattle.mp_legal.specs.Stepped.{Stepped, Place, tells, says, each}
use Rattle.mp_legal.specs.Drain.{drain_place, finishes_all, sends_and_finishes, is_sent, round, rounds_from, rounds, most_rounds, reaps, drain}
use Rattle.mp_legal.specs.Turns.{Turn, longest, turns_of}
use Rattle.mp_legal.specs.Numbers.{has_req, asked_at, standing}
use Rattle.mp_run.specs.LaneTurns.{submit_in, turns_submits}
use Rattle.mp_run.specs.Sound.{AreOf}
use Rattle.mp_run.specs.Trails.{try_at, has_ended, AreScripted, IsScripted, AreTold, all_events}
use Rattle.mp_run.proofs.Changes.{of-filter}
use Rattle.mp_run.proofs.Chosen.{asked_req}
use Rattle.mp_run.proofs.Distinct.{has-append, has-reqs}
use Rattle.mp_run.proofs.KeptCalls.{numbers-call}
use Rattle.mp_run.proofs.KeptRun.{opening_quiet, none_sent, run_distinct, run_rests, submitted_by}
use Rattle.mp_run.proofs.OnTurns.{numbers, distinct_apart}
use Rattle.mp_run.proofs.PaidRun.{AreOfLanes, rounds_of_lanes}
use Rattle.mp_run.proofs.TurnFacts.{count, fresh_turns}
use Rattle.mp_run.proofs.TrailsAdd.{tries_added, has_added, not_there}
use Rattle.mp_run.proofs.Told.{each_asked}
use Rattle.mp_run.proofs.TrailsTries.{AreOnTrail, trail_over}
use Rattle.mp_run.proofs.TrailsSeats.{one_and_others, apart, count_between, flown, flown_some, on_the_way, flies, waits}
use Rattle.mp_run.proofs.TrailsTold.{AreSaid, count_more, all_more, told_same, told_said, told_order}
use Rattle.mp_run.proofs.TrailsCalls.{HoldsOf, Holds, Says, Leaves, says_both, says_nothing, says_one, says_change, says_added, says_removed, says_reap, leaves_joined, leaves_nothing, leaves_says, leaves_submits, holds_finishes, leaves_all, submit_holds}

-- ---- a line

said_map : (number : ℕ) (words : List Said) → AreSaid (map (At number) words)
said_map number [] = tt
said_map number (it ∷ more) = (tt, said_map number more)

-- what is said before the calls, where they start from the state that is
says_opens : (at : Place) (s : State) (words : List Said) → Says s (tells s (map (At at.line) words))
says_opens at s words = record { requests = refl; flights = refl; waiting = refl; said = said_map at.line words }

-- a line of one call that tells of no try
one_leaves : (i : Inputs) (at : Place) (s : State) (c : Call) → Says s (call i at s c) → Leaves i.answers [] [] s (runs i at (record { state = s; said = []; calls = c ∷ [] }))
one_leaves i at s c is =
    leaves_says i.answers [] s (runs i at (record { state = s; said = []; calls = c ∷ [] }))
    (says_both s (tells s []) (each (call i at) s (c ∷ [])) (says_nothing s) (says_one i at s c is))

page_leaves : (i : Inputs) (at : Place) (s : State) (read : Result Page PageError) (made : Page → Call) → ((page : Page) → Says s (call i at s (made page))) → Leaves i.answers [] [] s (runs i at (by_page s read made))
page_leaves i at s (Ok page) made is = one_leaves i at s (made page) (is page)
page_leaves i at s (Err error) made is =
    leaves_says i.answers [] s (runs i at (by_page s (Err error) made))
    (says_both s (opens at (by_page s (Err error) made)) (tells s []) (says_opens at s (by_page s (Err error) made).said) (says_nothing s))

adds_leaves : (i : Inputs) (at : Place) (s : State) (ctrl : ℕ) (box : Option ℕ) → Leaves i.answers [] [] s (runs i at (adds i s ctrl box))
adds_leaves i at s ctrl None = one_leaves i at s (add (gift_of i.topology.nsid ctrl None)) (says_added at s (gift_of i.topology.nsid ctrl None))
adds_leaves i at s ctrl (Some box) =
    page_leaves i at s (page_at i.pages box) (λ page. add (gift_of i.topology.nsid ctrl (Some page))) (λ page. says_added at s (gift_of i.topology.nsid ctrl (Some page)))

-- some flights of the lane are finished
ends_leave : (i : Inputs) (at : Place) (s : State) (fs : List Flight) → at.lane < 17 → ((lane : ℕ) → AreOf lane (flights_of lane s) → lane ≡ at.lane → AreOf at.lane fs) → ((r : ℕ) → flown r fs ≤ flown r (flights_of at.lane s))
    → Leaves i.answers [] [] s (runs i at (finishes s fs))
ends_leave i at s fs lt of within =
    leaves_joined i.answers [] [] [] s (opens at (finishes s fs)) (each (call i at) s (map finish fs)) (leaves_says i.answers [] s (opens at (finishes s fs)) (says_opens at s (finishes s fs).said))
    (λ events holds. holds_finishes i at s fs [] events lt (of at.lane (holds.seated.home at.lane) refl) within holds)

-- a new request waits
pub added_holds : (i : Inputs) (lane : ℕ) (s : State) (req node : ℕ) (events : List Event) → has_req req s.requests ≡ false → Holds i.answers s [] events → Holds i.answers (start_of i lane s (line.Submit req node)).state (req ∷ []) events
added_holds i lane s req node events new holds =
    let next : List Asked = (start_of i lane s (line.Submit req node)).state.requests in
    let same : (r : ℕ) → (asked_at r next).tries ≡ (asked_at r s.requests).tries = λ r. tries_added i lane s req node r new in
    let stands : (r : ℕ) → standing r next ≡ standing r s.requests = λ r. ap (λ (ts : List Tried). outcome_of (last_or None ts)) (same r) in
    let own : (waits (standing req next) && has_req req next) ≡ true =
    ap (λ b. waits (standing req next) && b) (has_added i lane s req node req new ∙ both (has_req req s.requests) (req == req) (eq-eqb req req refl))
    ∙ ap (λ o. waits o && true) (stands req ∙ ap (λ (a : Asked). outcome_of (last_or None a.tries)) (not_there req s.requests new)) in
    let more : (r : ℕ) → count r (s.waiting ++ req ∷ []) ≡ count r (s.waiting ++ []) + cond (req == r) 1 0 = λ r. count_between r req s.waiting [] in
    record {
      seated = record {
        lanes = holds.seated.lanes;
        home = holds.seated.home;
        flying = λ r. holds.seated.flying r ∙ ap (λ o. cond (flies o) 1 0) (sym (stands r));
        queued = one_and_others (λ r. count r (s.waiting ++ req ∷ []) ≡ cond (waits (standing r next) && has_req r next) 1 0) req
            (more req ∙ ap (λ b. count req (s.waiting ++ []) + cond b 1 0) (eq-eqb req req refl) ∙ ap (λ n. n + 1) (holds.seated.queued req ∙ ap (λ b. cond b 1 0) (none (waits (standing req s.requests)) (has_req req s.requests) new)) ∙ ap (λ b. cond b 1 0) (sym own))
            (λ r other. let e : count r (s.waiting ++ req ∷ []) ≡ count r (s.waiting ++ []) + 0 = more r ∙ ap (λ b. count r (s.waiting ++ []) + cond b 1 0) (apart r req other) in
            plain (count r (s.waiting ++ req ∷ [])) (count r (s.waiting ++ [])) e ∙ holds.seated.queued r
            ∙ ap (λ o. cond (waits o && has_req r s.requests) 1 0) (sym (stands r))
            ∙ ap (λ b. cond (waits (standing r next) && b) 1 0) (sym (has_added i lane s req node r new ∙ nor (has_req r s.requests) (req == r) (apart r req other))));
      };
      trails = λ r. subst (λ (ts : List Tried). AreOnTrail i.answers r [] ts) (sym (same r)) (holds.trails r);
      told = told_same s.requests next events same holds.told;
    }
  where
    both : (a b : Bool) → b ≡ true → (a || b) ≡ true
    both true b e = refl
    both false b e = e

    nor : (a b : Bool) → b ≡ false → (a || b) ≡ a
    nor true b e = refl
    nor false b e = e

    none : (a b : Bool) → b ≡ false → (a && b) ≡ false
    none true b e = e
    none false b e = refl

    plain : (a b : ℕ) → a ≡ b + 0 → a ≡ b
    plain a b e = omega (arith, e)

-- what these submit is new
abbrev pub AreNew : List ℕ → State → Type 0
AreNew reqs s = (r : ℕ) → has reqs r ≡ true → has_req r s.requests ≡ false

submit_leaves : (i : Inputs) (at : Place) (s : State) (req node : ℕ) → at.lane < 17 → has_req req s.requests ≡ false → Leaves i.answers [] [] s (runs i at (start_of i at.lane s (line.Submit req node)))
submit_leaves i at s req node lt new =
    let start : Start = start_of i at.lane s (line.Submit req node) in
    leaves_joined i.answers [] (req ∷ []) [] s (opens at start) (each (call i at) start.state (submit req ∷ []))
    (λ events holds. let now : Holds i.answers start.state (req ∷ []) events = added_holds i at.lane s req node events new holds in
    record { seated = now.seated; trails = now.trails; told = told_said start.state.requests events (map (At at.line) start.said) (said_map at.line start.said) now.told })
    (leaves_submits i at start.state (req ∷ []) lt)

-- those that wait are taken from the list
pub taken_holds : (answers : List Answer) (s : State) (events : List Event) → Holds answers s [] events → Holds answers (record s { waiting = [] }) s.waiting events
taken_holds answers s events holds = subst (λ (queue : List ℕ). HoldsOf answers s.requests s.flights queue events) (append-nil s.waiting) holds

requeue_leaves : (i : Inputs) (at : Place) (s : State) → at.lane < 17 → Leaves i.answers [] [] s (runs i at (start_of i at.lane s line.Requeue))
requeue_leaves i at s lt =
    let start : Start = start_of i at.lane s line.Requeue in
    leaves_joined i.answers [] s.waiting [] s (opens at start) (each (call i at) start.state (map submit s.waiting))
    (λ events holds. let now : Holds i.answers start.state s.waiting events = taken_holds i.answers s events holds in
    record { seated = now.seated; trails = now.trails; told = told_said start.state.requests events (map (At at.line) start.said) (said_map at.line start.said) now.told })
    (leaves_submits i at start.state s.waiting lt)

line_leaves : (i : Inputs) (at : Place) (s : State) (l : Line) → at.lane < 17 → AreNew (submit_of l) s → Leaves i.answers [] [] s (runs i at (start_of i at.lane s l))
line_leaves i at s (line.Submit req node) lt new = submit_leaves i at s req node lt (new req (rw (eq-eqb req req refl) refl))
line_leaves i at s (line.Finish req) lt new =
    ends_leave i at s (flights_with req (flights_of at.lane s)) lt (λ lane of is. of-filter at.lane (λ f. f.req == req) (flights_of at.lane s) (subst (λ l. AreOf l (flights_of l s)) is of))
    (λ r. flown_some r (λ f. f.req == req) (flights_of at.lane s))
line_leaves i at s line.FinishAll lt new = ends_leave i at s (flights_of at.lane s) lt (λ lane of is. subst (λ l. AreOf l (flights_of l s)) is of) (λ r. omega arith)
line_leaves i at s line.Requeue lt new = requeue_leaves i at s lt
line_leaves i at s (line.Log ctrl box) lt new = page_leaves i at s (page_at i.pages box) (reads_log i.topology.nsid ctrl) (λ page. says_change at s ctrl (op.Log (state_for page i.topology.nsid) (changing page)))
line_leaves i at s (line.Ctrl ctrl cstate) lt new = one_leaves i at s (change ctrl (op.Ctrl cstate)) (says_change at s ctrl (op.Ctrl cstate))
line_leaves i at s (line.Anatt ctrl) lt new = one_leaves i at s (change ctrl op.Expire) (says_change at s ctrl op.Expire)
line_leaves i at s (line.Add ctrl box) lt new = adds_leaves i at s ctrl box
line_leaves i at s (line.Remove ctrl) lt new = one_leaves i at s (remove ctrl) (says_removed at s ctrl)
line_leaves i at s line.Reap lt new = one_leaves i at s reap (says_reap at s)
line_leaves i at s (line.Policy policy) lt new = one_leaves i at s (set_policy policy) (record { requests = refl; flights = refl; waiting = refl; said = (tt, tt) })

pub turn_leaves : (i : Inputs) (lane : ℕ) (s : State) (turn : Option Numbered1) → lane < 17 → AreNew (submit_in turn) s → Leaves i.answers [] [] s (turn_step i lane s turn)
turn_leaves i lane s (Some l) lt new = line_leaves i (place_of lane (Some l)) s l.line lt new
turn_leaves i lane s None lt new =
    ends_leave i (place_of lane None) s (flights_of lane s) lt (λ other of is. subst (λ l. AreOf l (flights_of l s)) is of) (λ r. omega arith)

-- ---- the numbers that are there

pub numbers_each : (i : Inputs) (at : Place) (s : State) (cs : List Call) → numbers (each (call i at) s cs).state.requests ≡ numbers s.requests
numbers_each i at s [] = refl
numbers_each i at s (c ∷ cs) = numbers_each i at (call i at s c).state cs ∙ numbers-call i at s c

or_nothing : (b : Bool) → b ≡ (b || false)
or_nothing true = refl
or_nothing false = refl

page_has : (s : State) (read : Result Page PageError) (made : Page → Call) (r : ℕ) → has_req r (by_page s read made).state.requests ≡ (has_req r s.requests || false)
page_has s (Ok page) made r = or_nothing (has_req r s.requests)
page_has s (Err error) made r = or_nothing (has_req r s.requests)

adds_has : (i : Inputs) (s : State) (ctrl : ℕ) (box : Option ℕ) (r : ℕ) → has_req r (adds i s ctrl box).state.requests ≡ (has_req r s.requests || false)
adds_has i s ctrl None r = or_nothing (has_req r s.requests)
adds_has i s ctrl (Some box) r = page_has s (page_at i.pages box) (λ page. add (gift_of i.topology.nsid ctrl (Some page))) r

line_has : (i : Inputs) (lane : ℕ) (s : State) (l : Line) (r : ℕ) → AreNew (submit_of l) s → has_req r (start_of i lane s l).state.requests ≡ (has_req r s.requests || has (submit_of l) r)
line_has i lane s (line.Submit req node) r new = has_added i lane s req node r (new req (rw (eq-eqb req req refl) refl)) ∙ ap (λ b. has_req r s.requests || b) (or_nothing (req == r))
line_has i lane s (line.Finish req) r new = or_nothing (has_req r s.requests)
line_has i lane s line.FinishAll r new = or_nothing (has_req r s.requests)
line_has i lane s line.Requeue r new = or_nothing (has_req r s.requests)
line_has i lane s (line.Log ctrl box) r new = page_has s (page_at i.pages box) (reads_log i.topology.nsid ctrl) r
line_has i lane s (line.Ctrl ctrl cstate) r new = or_nothing (has_req r s.requests)
line_has i lane s (line.Anatt ctrl) r new = or_nothing (has_req r s.requests)
line_has i lane s (line.Add ctrl box) r new = adds_has i s ctrl box r
line_has i lane s (line.Remove ctrl) r new = or_nothing (has_req r s.requests)
line_has i lane s line.Reap r new = or_nothing (has_req r s.requests)
line_has i lane s (line.Policy policy) r new = or_nothing (has_req r s.requests)

start_has : (i : Inputs) (lane : ℕ) (s : State) (turn : Option Numbered1) (r : ℕ) → AreNew (submit_in turn) s → has_req r (turn_start i lane s turn).state.requests ≡ (has_req r s.requests || has (submit_in turn) r)
start_has i lane s None r new = or_nothing (has_req r s.requests)
start_has i lane s (Some l) r new = line_has i lane s l.line r new

pub turn_has : (i : Inputs) (lane : ℕ) (s : State) (turn : Option Numbered1) (r : ℕ) → AreNew (submit_in turn) s → has_req r (turn_step i lane s turn).state.requests ≡ (has_req r s.requests || has (submit_in turn) r)
turn_has i lane s turn r new =
    let start : Start = turn_start i lane s turn in
    sym (has-reqs (turn_step i lane s turn).state.requests r) ∙ ap (λ ns. has ns r) (numbers_each i (place_of lane turn) start.state start.calls) ∙ has-reqs start.state.requests r ∙ start_has i lane s turn r new

-- ---- the turns

pub has_first : (xs ys : List ℕ) (r : ℕ) → has xs r ≡ true → has (xs ++ ys) r ≡ true
has_first xs ys r e = has-append xs ys r ∙ ap (λ b. b || has ys r) e

pub has_second : (xs ys : List ℕ) (r : ℕ) → has ys r ≡ true → has (xs ++ ys) r ≡ true
has_second xs ys r e = has-append xs ys r ∙ ap (λ b. has xs r || b) e ∙ or_last (has xs r)
  where
    or_last : (b : Bool) → (b || true) ≡ true
    or_last true = refl
    or_last false = refl

pub distinct_rest : (xs ys : List ℕ) → IsDistinct (xs ++ ys) → IsDistinct ys
distinct_rest [] ys d = d
distinct_rest (x ∷ xs) ys d = distinct_rest xs ys d.1

-- the events of turns, in the order of the turns
abbrev pub events_by : List Taken → List Event
events_by ts = flat_map (λ t. t.step.events) ts

pub turns_leave : (i : Inputs) (s : State) (ts : List Turn) → AreOfLanes 17 ts → AreNew (turns_submits ts) s → IsDistinct (turns_submits ts) → (events : List Event) → Holds i.answers s [] events
    → Holds i.answers (state_after s (taken i s ts)) [] (events ++ events_by (taken i s ts))
turns_leave i s [] of new distinct events holds = leaves_nothing i.answers [] s events holds
turns_leave i s (t ∷ ts) of new distinct events holds =
    let first : Stepped = turn_step i t.lane s t.line in
    let mine : AreNew (submit_in t.line) s = λ r e. new r (has_first (submit_in t.line) (turns_submits ts) r e) in
    let rest : AreNew (turns_submits ts) first.state = λ r e. turn_has i t.lane s t.line r mine
    ∙ ap (λ b. b || has (submit_in t.line) r) (new r (has_second (submit_in t.line) (turns_submits ts) r e)) ∙ distinct_apart (submit_in t.line) (turns_submits ts) r distinct e in
    leaves_behind events first.events (events_by (taken i first.state ts)) (state_after first.state (taken i first.state ts))
    (turns_leave i first.state ts of.1 rest (distinct_rest (submit_in t.line) (turns_submits ts) distinct) (events ++ first.events) (turn_leaves i t.lane s t.line of.0 mine events holds))
  where
    leaves_behind : (one two three : List Event) (u : State) → Holds i.answers u [] ((one ++ two) ++ three) → Holds i.answers u [] (one ++ (two ++ three))
    leaves_behind one two three u holds = subst (λ (es : List Event). Holds i.answers u [] es) (append_assoc one two three) holds

-- ---- the drain

pub sends_leave : (i : Inputs) (s : State) (req : ℕ) (others : List ℕ) → Leaves i.answers (req ∷ others) others s (sends_and_finishes i s req)
sends_leave i s req others =
    let one : Stepped = call i drain_place s (submit req) in
    let lt : 16 < 17 = omega arith in
    leaves_joined i.answers (req ∷ others) others others s one (finishes_all i one.state) (λ events holds. submit_holds i.answers i.topology.near 16 s req others events lt holds) (leaves_all i drain_place one.state others lt)

pub each_sends : (i : Inputs) (s : State) (requests : List ℕ) → Leaves i.answers requests [] s (each (sends_and_finishes i) s requests)
each_sends i s [] = leaves_nothing i.answers [] s
each_sends i s (req ∷ requests) =
    let one : Stepped = sends_and_finishes i s req in
    leaves_joined i.answers (req ∷ requests) requests [] s one (each (sends_and_finishes i) one.state requests) (sends_leave i s req requests) (each_sends i one.state requests)

pub round_leaves : (i : Inputs) (s : State) → Leaves i.answers [] [] s (round i s)
round_leaves i s =
    let opened : Stepped = says drain_place (record s { waiting = [] }) (said.Requeue (length s.waiting)) in
    let is_said : AreSaid opened.events = (tt, tt) in
    leaves_joined i.answers [] s.waiting [] s opened (each (sends_and_finishes i) (record s { waiting = [] }) s.waiting)
    (λ events holds. let now : Holds i.answers (record s { waiting = [] }) s.waiting events = taken_holds i.answers s events holds in
    record { seated = now.seated; trails = now.trails; told = told_said s.requests events opened.events is_said now.told })
    (each_sends i (record s { waiting = [] }) s.waiting)

rounds_leave : (i : Inputs) (n : ℕ) (s : State) (first : Stepped) → Leaves i.answers [] [] s first → Leaves i.answers [] [] s (rounds_from i n first)
rounds_leave i zero s first is = is
rounds_leave i (suc n) s first is =
    elim (cases_Bool (list_any is_sent first.events)) [
      | inl on ↦ rw on (leaves_joined i.answers [] [] [] s first (rounds_from i n (round i first.state)) is (rounds_leave i n first.state (round i first.state) (round_leaves i first.state)))
      | inr off ↦ rw off is
    ]

pub says_reaps : (s : State) (slots : List ℕ) → Says s (each (λ t slot. reaped drain_place t) s slots)
says_reaps s [] = says_nothing s
says_reaps s (slot ∷ slots) =
    let one : Stepped = reaped drain_place s in
    says_both s one (each (λ t slot. reaped drain_place t) one.state slots) (says_reap drain_place s) (says_reaps one.state slots)

drain_leaves : (i : Inputs) (s : State) → Leaves i.answers [] [] s (drain i s)
drain_leaves i s =
    let t : State = (reaps s).state in
    leaves_joined i.answers [] [] [] s (reaps s) (rounds i t) (leaves_says i.answers [] s (reaps s) (says_reaps s s.removals)) (rounds_leave i (most_rounds i t) t (round i t) (round_leaves i t))

-- ---- the whole run, its events in the order of the turns

none_on_the_way : (r n : ℕ) → on_the_way r (replicate n []) ≡ 0
none_on_the_way r zero = refl
none_on_the_way r (suc n) = let e : on_the_way r ([] ∷ replicate n []) ≡ 0 + on_the_way r (replicate n []) = sum_by-cons (λ (fs : List Flight). flown r fs) [] (replicate n []) in e ∙ ap (λ m. 0 + m) (none_on_the_way r n)

pub opening_holds : (i : Inputs) → Holds i.answers (opening i) [] []
opening_holds i = record {
  seated = record {
    lanes = let e = length-replicate {A = List Flight} 17 [] in omega (arith, e);
    home = λ lane. subst (AreOf lane) (sym (opening_quiet i lane)) tt;
    flying = λ r. none_on_the_way r 17;
    queued = λ r. refl;
  };
  trails = λ r. tt;
  told = record { once = λ req hop. none (is_some (try_at hop [])) (tried_none hop); ended = λ req hop. none (has_ended (try_at hop [])) (ended_none hop); each = tt };
}
  where
    tried_none : (hop : ℕ) → is_some (try_at hop []) ≡ false
    tried_none zero = refl
    tried_none (suc hop) = refl

    ended_none : (hop : ℕ) → has_ended (try_at hop []) ≡ false
    ended_none zero = refl
    ended_none (suc hop) = refl

    none : (b : Bool) → b ≡ false → count_by {X = Event} (λ e. b) [] ≡ cond b 1 0
    none b e = rw e refl

-- the turns of a run, as they were taken
abbrev turns_taken : Inputs → List LanePlan → List Taken
turns_taken i plans = taken i (opening i) (turns_of plans)

run_holds : (i : Inputs) (plans : List LanePlan) → length plans ≤ 16 → IsDistinct (submits_in plans)
    → Holds i.answers (state_left i plans) [] (events_by (turns_taken i plans) ++ (drain i (state_after (opening i) (turns_taken i plans))).events)
run_holds i plans few distinct =
    let ts : List Turn = turns_of plans in
    let of : AreOfLanes 17 ts = rounds_of_lanes 17 plans (range_with_len 0 (longest plans + 1)) (omega (arith, few)) in
    drain_leaves i (state_after (opening i) (taken i (opening i) ts)) (events_by (taken i (opening i) ts))
    (turns_leave i (opening i) ts of (λ r e. refl) (fresh_turns plans distinct) [] (opening_holds i))

-- ---- the events in the order of the lanes

-- the events of some lanes, one lane behind the other
abbrev by_lanes : List Taken → ℕ → ℕ → List Event
by_lanes ts a n = flat_map (λ events. events) (map (events_in ts) (range_with_len a n))

lanes_miss : (p : Event → Bool) (t : Taken) (ts : List Taken) (a n : ℕ) → t.lane < a → count_by p (by_lanes (t ∷ ts) a n) ≡ count_by p (by_lanes ts a n)
lanes_miss p t ts a zero lt = refl
lanes_miss p t ts a (suc n) lt =
    let off : (t.lane == a) ≡ false = grind (arith, nat_tests) in
    let rest = lanes_miss p t ts (a + 1) n (omega (arith, lt)) in
    rw off (count_more p (events_in ts a) (by_lanes (t ∷ ts) (a + 1) n) ∙ ap (λ m. count_by p (events_in ts a) + m) rest ∙ sym (count_more p (events_in ts a) (by_lanes ts (a + 1) n)))

lanes_hit : (p : Event → Bool) (t : Taken) (ts : List Taken) (a n : ℕ) → a ≤ t.lane → t.lane < a + n → count_by p (by_lanes (t ∷ ts) a n) ≡ count_by p t.step.events + count_by p (by_lanes ts a n)
lanes_hit p t ts a zero le lt = absurd (omega (arith, le, lt))
lanes_hit p t ts a (suc n) le lt =
    let all = count_more p (events_in ts a) (by_lanes ts (a + 1) n) in
    elim (cases_Bool (t.lane == a)) [
      | inl on ↦ let below : t.lane < a + 1 = grind (arith, nat_tests) in
          let rest = lanes_miss p t ts (a + 1) n below in
          let whole = count_more p (t.step.events ++ events_in ts a) (by_lanes (t ∷ ts) (a + 1) n) in
          let own = count_more p t.step.events (events_in ts a) in
          rw on (omega (arith, all, rest, whole, own))
      | inr off ↦ let above : a + 1 ≤ t.lane = grind (arith, nat_tests) in
          let rest = lanes_hit p t ts (a + 1) n above (omega (arith, lt)) in
          let whole = count_more p (events_in ts a) (by_lanes (t ∷ ts) (a + 1) n) in
          rw off (omega (arith, all, rest, whole))
    ]

lanes_none : (p : Event → Bool) (a n : ℕ) → count_by p (by_lanes [] a n) ≡ 0
lanes_none p a zero = refl
lanes_none p a (suc n) = lanes_none p (a + 1) n

lanes_count : (p : Event → Bool) (n : ℕ) (ts : List Taken) → AllByRecursion (λ t. t.lane < n) ts → count_by p (by_lanes ts 0 n) ≡ count_by p (events_by ts)
lanes_count p n [] of = lanes_none p 0 n
lanes_count p n (t ∷ ts) of =
    lanes_hit p t ts 0 n (omega arith) (omega (arith, of.0)) ∙ ap (λ m. count_by p t.step.events + m) (lanes_count p n ts of.1) ∙ sym (count_more p t.step.events (events_by ts))

all_first : (P : Event → Type 0) (xs ys : List Event) → AllByRecursion P (xs ++ ys) → AllByRecursion P xs
all_first P [] ys all = tt
all_first P (x ∷ xs) ys all = (all.0, all_first P xs ys all.1)

all_rest : (P : Event → Type 0) (xs ys : List Event) → AllByRecursion P (xs ++ ys) → AllByRecursion P ys
all_rest P [] ys all = all
all_rest P (x ∷ xs) ys all = all_rest P xs ys all.1

lane_all : (P : Event → Type 0) (lane : ℕ) (ts : List Taken) → AllByRecursion P (events_by ts) → AllByRecursion P (events_in ts lane)
lane_all P lane [] all = tt
lane_all P lane (t ∷ ts) all =
    let rest = lane_all P lane ts (all_rest P t.step.events (events_by ts) all) in
    elim (cases_Bool (t.lane == lane)) [
      | inl on ↦ rw on (all_more P t.step.events (events_in ts lane) (all_first P t.step.events (events_by ts) all) rest)
      | inr off ↦ rw off rest
    ]

lanes_all : (P : Event → Type 0) (ts : List Taken) (a n : ℕ) → AllByRecursion P (events_by ts) → AllByRecursion P (by_lanes ts a n)
lanes_all P ts a zero all = tt
lanes_all P ts a (suc n) all = all_more P (events_in ts a) (by_lanes ts (a + 1) n) (lane_all P a ts all) (lanes_all P ts (a + 1) n all)

taken_of : (i : Inputs) (n : ℕ) (s : State) (ts : List Turn) → AreOfLanes n ts → AllByRecursion (λ t. t.lane < n) (taken i s ts)
taken_of i n s [] of = tt
taken_of i n s (t ∷ ts) of = (of.0, taken_of i n (turn_step i t.lane s t.line).state ts of.1)

-- ---- the laws

pub run_told : (i : Inputs) (plans : List LanePlan) → length plans ≤ 16 → IsDistinct (submits_in plans) → AreTold (plain_run i plans).requests (all_events (plain_run i plans))
run_told i plans few distinct =
    let ts : List Taken = turns_taken i plans in
    let n : ℕ = length plans in
    let last : List Event = (drain i (state_after (opening i) ts)).events in
    let of : AllByRecursion (λ t. t.lane < n) ts = taken_of i n (opening i) (turns_of plans) (rounds_of_lanes n plans (range_with_len 0 (longest plans + 1)) (omega arith)) in
    let holds = run_holds i plans few distinct in
    told_order (state_left i plans).requests (events_by ts ++ last) (by_lanes ts 0 n ++ last)
    (λ p. count_more p (by_lanes ts 0 n) last ∙ ap (λ m. m + count_by p last) (lanes_count p n ts of) ∙ sym (count_more p (events_by ts) last))
    (λ P all. all_more P (by_lanes ts 0 n) last (lanes_all P ts 0 n (all_first P (events_by ts) last all)) (all_rest P (events_by ts) last all))
    holds.told

pub run_scripted : (i : Inputs) (plans : List LanePlan) → length plans ≤ 16 → IsDistinct (submits_in plans) → AllByRecursion (IsScripted i.answers) (plain_run i plans).requests
run_scripted i plans few distinct =
    let holds = run_holds i plans few distinct in
    let requests : List Asked = (state_left i plans).requests in
    each_asked (IsScripted i.answers) requests (run_distinct i plans few distinct)
    (λ r. subst (λ n. AreScripted i.answers n [] (asked_at r requests).tries) (sym (asked_req r requests))
    (trail_over i.answers r [] (asked_at r requests).tries (holds.trails r) (none_sent (submitted_by plans) (state_left i plans) (run_rests i plans few) r)))
