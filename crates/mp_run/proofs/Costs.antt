-- What turns and the drain cost, beside the tries that are listed.
use Rattle.std.proofs.Common.{[], ◌≡◌, ℕ, zero, suc, ◌+◌, ◌*◌, ◌<◌, ◌≤◌, ◌&&◌, ◌==◌, not, true, false, cond, List, ◌∷◌, ◌++◌, inl, inr, map, filter, find, length, get_or, set, nat_lt, eq-eqb, Option, Some, None, Result, Ok, Err, refl, sym, ap, ◌∙◌, subst, arith}
use Rattle.std.specs.List.{list_any, count_by}
use Rattle.std.proofs.lemmas.Bool.{cases_Bool}
use Rattle.std.proofs.lemmas.List.{length-append, get_or-set_same}
use Rattle.mp_words.specs.declared.answers.Answer.{Answer}
use Rattle.mp_words.specs.declared.flight.Flight.{Flight}
use Rattle.mp_words.specs.declared.path.Path.{Path}
use Rattle.mp_words.specs.declared.op.Op.{Op}
use Rattle.mp_words.specs.declared.op.Op.TheVariants as op
use Rattle.mp_words.specs.declared.op.Gift.{Gift}
use Rattle.mp_words.specs.declared.op.Effect.{Effect}
use Rattle.mp_words.specs.declared.op.Effect.TheVariants as effect
use Rattle.mp_words.specs.declared.trying.Back.{Back}
use Rattle.mp_words.specs.declared.trying.TryEnd.{TryEnd}
use Rattle.mp_words.specs.declared.trying.TryEnd.TheVariants.{Sent, Listed, Failed}
use Rattle.mp_words.specs.declared.trying.Outcome.TheVariants as outcome
use Rattle.mp_words.specs.Effect.{effect_of}
use Rattle.mp_words.specs.Order.{slots_of}
use Rattle.mp_words.specs.PathTable.{has_ctrl}
use Rattle.mp_words.specs.Request.{Asked, Tried, attempts_of}
use Rattle.mp_page.specs.declared.page.Page.{Page}
use Rattle.mp_page.specs.declared.page.PageError.{PageError}
use Rattle.mp_page.specs.Gifts.{page_at, gift_of, state_for, changing}
use Rattle.mp_record.specs.declared.event.Event.{Event}
use Rattle.mp_record.specs.declared.event.Event.TheVariants.{Fin}
use Rattle.mp_submit.specs.Finishes.{six_of}
use Rattle.mp_words.specs.declared.trying.Back.TheVariants as back
use Rattle.mp_script.specs.declared.script.Line.{Line}
use Rattle.mp_script.specs.declared.script.Line.TheVariants as line
use Rattle.mp_script.specs.declared.script.Numbered1.{Numbered1}
use Rattle.mp_script.specs.Facts.{submit_of}
use Rattle.mp_legal.specs.Answers as answers
use Rattle.mp_legal.specs.Answers.{hop_statuses}
use Rattle.mp_legal.specs.Enough.{is_listed, lists}
use Rattle.mp_legal.specs.Numbers.{has_req, asked_at, standing}
use Rattle.mp_legal.specs.PlainState.{State, request_of, with_tries, paths_of}
use Rattle.mp_legal.specs.PlainCall.{Inputs, Call, submit, finish, change, add, remove, set_policy, reap, call}
use Rattle.mp_legal.specs.PlainChange.{changed_by, changed_path}
use Rattle.mp_legal.specs.PlainFinish.{finished, landed, ended_tries, after_back}
use Rattle.mp_legal.specs.PlainKeep.{slot_with, free_slot, given_in, given_unless, marked, is_among, without, unlisted, freed_or_again, reaped_from, is_idle}
use Rattle.mp_legal.specs.PlainSubmit.{tried, end_of, choice_by}
use Rattle.mp_legal.specs.PlainLine.{Start, start_of, turn_step, place_of, flights_of, flights_with, by_page, adds, reads_log}
use Rattle.mp_legal.specs.RunCalls.{Called, called, calls_made, turn_calls, request_calls, requests_calls, round_calls, rounds_calls, drain_calls}
use Rattle.mp_legal.specs.Stepped.{Stepped, Place, each}
use Rattle.mp_legal.specs.Drain.{drain_place, is_sent, round, rounds_from, most_rounds, reaps, sends_and_finishes}
use Rattle.mp_legal.specs.Units.{came_back}
use Rattle.mp_run.specs.LaneTurns.{submit_in}
use Rattle.mp_run.specs.Sound.{AreOf}
use Rattle.mp_run.proofs.Changes.{of-filter}
use Rattle.mp_run.proofs.Chosen.{asked_req}
use Rattle.mp_run.proofs.Coming.{left, left_fewer, listed, back_waiting}
use Rattle.mp_run.proofs.ComingBack.{of_paths, way_of, back_fewer}
use Rattle.mp_run.proofs.LastRounds.{open_fewer}
use Rattle.mp_run.proofs.Standing.{sent_there}
use Rattle.mp_run.proofs.TrailsAdd.{tries_added}
use Rattle.mp_run.proofs.TrailsCalls.{Holds, Says, says_change, says_added, says_removed, says_reap, submit_holds, finish_holds, holds_says, left_flights}
use Rattle.mp_run.proofs.TrailsRun.{AreNew, added_holds, taken_holds, sends_leave, round_leaves, says_reaps}
use Rattle.mp_run.proofs.TrailsSeats.{flown, flown_some, queue_waits, flight_sent, rest_fly, first_flies}
use Rattle.mp_run.proofs.TrailsTries.{SentLast, sent_last, IsOpen, open_try}

-- ---- what calls cost

-- what a call costs at most: a finish what it uses, another what it needs
abbrev pub price_of : Call → Stepped → ℕ
price_of (finish f) step = count_by came_back step.events
price_of (submit req) step = 1
price_of (change ctrl o) step = 1
price_of (add gift) step = 2
price_of (remove ctrl) step = 1
price_of (set_policy policy) step = 1
price_of reap step = 16

abbrev pub prices : List Called → ℕ
prices [] = 0
prices (c ∷ cs) = price_of c.done c.step + prices cs

abbrev pub listed_in : List Called → ℕ
listed_in [] = 0
listed_in (c ∷ cs) = cond (lists c) 1 0 + listed_in cs

pub prices-append : (xs ys : List Called) → prices (xs ++ ys) ≡ prices xs + prices ys
prices-append [] ys = omega arith
prices-append (x ∷ xs) ys = omega (arith, prices-append xs ys)

pub listed-append : (xs ys : List Called) → listed_in (xs ++ ys) ≡ listed_in xs + listed_in ys
listed-append [] ys = omega arith
listed-append (x ∷ xs) ys = omega (arith, listed-append xs ys)

-- those that wait, and twice the path's statuses that are still to come
abbrev pub worth : List Answer → State → ℕ
worth answers s = length s.waiting + 2 * left (of_paths answers) s.requests

-- These calls lead from one state to another, and cost so much beside what is listed; so many removals begin.
pub record Costs (answers : List Answer) (free begun : ℕ) (s t : State) (cs : List Called) : Type 0 where
  pub cost : prices cs + worth answers t ≤ worth answers s + listed_in cs + free
  pub removals : length t.removals ≤ length s.removals + begun

pub costs_both : (answers : List Answer) (a b m n : ℕ) (s t u : State) (xs ys : List Called) → Costs answers a m s t xs
    → Costs answers b n t u ys → Costs answers (a + b) (m + n) s u (xs ++ ys)
costs_both answers a b m n s t u xs ys one two = record {
  cost = omega (arith, one.cost, two.cost, prices-append xs ys, listed-append xs ys);
  removals = omega (arith, one.removals, two.removals);
}

pub costs_none : (answers : List Answer) (s : State) → Costs answers 0 0 s s []
costs_none answers s = record { cost = omega arith; removals = omega arith }

-- a greater bound
pub costs_more : (answers : List Answer) (a b m n : ℕ) (s t : State) (cs : List Called) → a ≤ b → m ≤ n
    → Costs answers a m s t cs → Costs answers b n s t cs
costs_more answers a b m n s t cs le few one = record
    { cost = omega (arith, one.cost, le); removals = omega (arith, one.removals, few) }

-- ---- a submit

submit_costs : (answers : List Answer) (lane : ℕ) (s : State) (a : Asked) (end : TryEnd)
    → a.tries ≡ (asked_at a.req s.requests).tries → has_req a.req s.requests ≡ true
    → (1 + worth answers (tried lane s a end).state ≤ worth answers s + cond (list_any is_listed (tried lane s a end).events) 1 0 + 1) × (length (tried lane s a end).state.removals ≤ length s.removals)
submit_costs answers lane s a (Sent slot version) were there =
    let t : Tried = record { end = Sent slot version; statuses = []; back = None } in
    let fewer = open_fewer (of_paths answers) s a.req t refl there in (
      subst
          (λ (ts : List Tried). 1 + (length s.waiting + 2 * left (of_paths answers) (with_tries a.req (ts ++ t ∷ []) s.requests)) ≤ worth answers s + 0 + 1)
          (sym were) (omega (arith, fewer)),
      omega arith,
    )
submit_costs answers lane s a Failed were there =
    let t : Tried = record { end = Failed; statuses = []; back = None } in
    let fewer = open_fewer (of_paths answers) s a.req t refl there in (
      subst
          (λ (ts : List Tried). 1 + (length s.waiting + 2 * left (of_paths answers) (with_tries a.req (ts ++ t ∷ []) s.requests)) ≤ worth answers s + 0 + 1)
          (sym were) (omega (arith, fewer)),
      omega arith,
    )
submit_costs answers lane s a Listed were there =
    let t : Tried = record { end = Listed; statuses = []; back = None } in
    let fewer = open_fewer (of_paths answers) s a.req t refl there in
    let longer : length (s.waiting ++ a.req ∷ []) ≡ length s.waiting + 1 = length-append s.waiting (a.req ∷ []) in (
      subst
          (λ (ts : List Tried). 1 + (length (s.waiting ++ a.req ∷ []) + 2 * left (of_paths answers) (with_tries a.req (ts ++ t ∷ []) s.requests)) ≤ worth answers s + 1 + 1)
          (sym were) (omega (arith, fewer, longer)),
      omega arith,
    )

one_submit : (i : Inputs) (at : Place) (s : State) (req : ℕ) (others : List ℕ) (events : List Event)
    → Holds i.answers s (req ∷ others) events
    → Costs i.answers 1 0 s (call i at s (submit req)).state (called i at s (submit req) ∷ [])
one_submit i at s req others events holds =
    let a : Asked = request_of s req in
    let number : a.req ≡ req = asked_req req s.requests in
    let waits = queue_waits s.requests s.flights s.waiting others req holds.seated in
    let end : TryEnd = end_of s (choice_by s.order.policy i.topology.near s a.node) in
    let it =
    submit_costs i.answers at.lane s a end (ap (λ n. (asked_at n s.requests).tries) (sym number))
    (ap (λ n. has_req n s.requests) number ∙ waits.1) in
    record { cost = omega (arith, it.0); removals = omega (arith, it.1) }

pub submits_cost : (i : Inputs) (at : Place) (s : State) (reqs : List ℕ) (events : List Event) → at.lane < 17
    → Holds i.answers s reqs events
    → Costs i.answers (length reqs) 0 s (each (call i at) s (map submit reqs)).state (calls_made i at s (map submit reqs))
submits_cost i at s [] events lt holds = costs_none i.answers s
submits_cost i at s (req ∷ reqs) events lt holds =
    let t : State = (call i at s (submit req)).state in
    let one = one_submit i at s req reqs events holds in
    let rest =
    submits_cost i at t reqs (events ++ (call i at s (submit req)).events) lt
    (submit_holds i.answers i.topology.near at.lane s req reqs events lt holds) in
    costs_more i.answers (1 + length reqs) (length (req ∷ reqs)) 0 0 s (each (call i at) t (map submit reqs)).state
    (called i at s (submit req) ∷ calls_made i at t (map submit reqs)) (omega arith) (omega arith)
    (costs_both i.answers 1 (length reqs) 0 0 s t (each (call i at) t (map submit reqs)).state (called i at s (submit req) ∷ []) (calls_made i at t (map submit reqs)) one rest)

-- ---- a finish

back_count : (req hop count : ℕ) (statuses : List ℕ) (way : Option Back)
    → count_by came_back (Fin req hop statuses count way ∷ []) ≡ length (listed way req)
back_count req hop count statuses None = refl
back_count req hop count statuses (Some way) = refl

back_removals : (f : Flight) (way : Option Back) (s : State) → (after_back f way s).removals ≡ s.removals
back_removals f None s = refl
back_removals f (Some back.Unset) s = refl
back_removals f (Some (back.Set entry)) s = refl

one_finish : (i : Inputs) (at : Place) (s : State) (f : Flight) (others : List ℕ) (events : List Event) → f.lane < 17
    → 1 ≤ flown f.req (flights_of f.lane s) → Holds i.answers s others events
    → Costs i.answers 0 0 s (call i at s (finish f)).state (called i at s (finish f) ∷ [])
one_finish i at s f others events lt le holds =
    let sent : standing f.req s.requests ≡ outcome.Sent =
    flight_sent s.requests s.flights (s.waiting ++ others) f.lane f.req holds.seated
    (omega (arith, lt, holds.seated.lanes)) le in
    let tries : List Tried = (request_of s f.req).tries in
    let last : SentLast tries = sent_last tries sent in
    let flying : IsOpen last.last = open_try last.last last.sent in
    let fewer =
    back_fewer i.answers at.lane s f last.before last.last last.parts flying.statuses
    (sent_there f.req s.requests sent) in
    let way : Option Back = way_of i.answers at.lane s f in
    let statuses : List ℕ = hop_statuses i.answers f.req (attempts_of tries + 1) in
    let left_s : State = landed f (ended_tries statuses way tries) s in
    let waiting : (call i at s (finish f)).state.waiting ≡ s.waiting ++ listed way f.req = back_waiting f way left_s in
    let count : length (call i at s (finish f)).state.waiting ≡ length s.waiting + length (listed way f.req) =
    ap length waiting ∙ length-append s.waiting (listed way f.req) in
    let price : price_of (finish f) (call i at s (finish f)) ≡ length (listed way f.req) =
    back_count f.req (length tries) (length statuses) (six_of statuses) way in
    let removals : length (call i at s (finish f)).state.removals ≡ length s.removals =
    ap length (back_removals f way left_s) in
    record { cost = omega (arith, fewer, count, price); removals = omega (arith, removals) }

pub finishes_cost : (i : Inputs) (at : Place) (s : State) (fs : List Flight) (others : List ℕ) (events : List Event)
    → at.lane < 17 → AreOf at.lane fs → ((r : ℕ) → flown r fs ≤ flown r (flights_of at.lane s))
    → Holds i.answers s others events
    → Costs i.answers 0 0 s (each (call i at) s (map finish fs)).state (calls_made i at s (map finish fs))
finishes_cost i at s [] others events lt of within holds = costs_none i.answers s
finishes_cost i at s (f ∷ fs) others events lt of within holds =
    let first : Stepped = finished i.answers at.lane s f in
    let low : at.lane < length s.flights = omega (arith, lt, holds.seated.lanes) in
    let first_in : 1 ≤ flown f.req (flights_of at.lane s) = omega (arith, first_flies f fs, within f.req) in
    let flies_here : 1 ≤ flown f.req (flights_of f.lane s) =
    subst (λ l. 1 ≤ flown f.req (flights_of l s)) (sym of.0) first_in in
    let its : f.lane < 17 = subst (λ l. l < 17) (sym of.0) lt in
    let after : Holds i.answers first.state others (events ++ first.events) =
    finish_holds i.answers at.lane s f others events its flies_here holds in
    let own : flights_of at.lane first.state ≡ filter (λ g. not (g.req == f.req)) (flights_of at.lane s) =
    ap (λ (fss : List (List Flight)). get_or fss at.lane []) (left_flights i.answers at.lane s f)
    ∙ ap (λ l. get_or (set s.flights l (filter (λ g. not (g.req == f.req)) (get_or s.flights l []))) at.lane []) of.0
    ∙ get_or-set_same s.flights at.lane (filter (λ g. not (g.req == f.req)) (get_or s.flights at.lane [])) [] low in
    let rest = rest_fly s.requests s.flights (s.waiting ++ others) at.lane f fs holds.seated low within in
    let still : (r : ℕ) → flown r fs ≤ flown r (flights_of at.lane first.state) =
    λ r. subst (λ (gs : List Flight). flown r fs ≤ flown r gs) (sym own) (rest r) in
    costs_both i.answers 0 0 0 0 s first.state (each (call i at) first.state (map finish fs)).state
    (called i at s (finish f) ∷ []) (calls_made i at first.state (map finish fs))
    (one_finish i at s f others events its flies_here holds)
    (finishes_cost i at first.state fs others (events ++ first.events) lt of.1 still after)

-- ---- calls that tell of no try

said_cost : (i : Inputs) (at : Place) (s : State) (c : Call) (free begun : ℕ) → Says s (call i at s c)
    → price_of c (call i at s c) ≤ free → length (call i at s c).state.removals ≤ length s.removals + begun
    → Costs i.answers free begun s (call i at s c).state (calls_made i at s (c ∷ []))
said_cost i at s c free begun says le removals =
    let same : worth i.answers (call i at s c).state ≡ worth i.answers s =
    λ j. length (says.waiting j) + 2 * left (of_paths i.answers) (says.requests j) in
    record { cost = omega (arith, same, le); removals = removals }

changed_removals : (at : Place) (s : State) (path : Path) (o : Op) (e : Effect)
    → (changed_by at s path o e).state.removals ≡ s.removals
changed_removals at s path o (effect.Changed row) = refl
changed_removals at s path o (effect.Refused cstate) = refl
changed_removals at s path o effect.NotArmed = refl

change_removals : (at : Place) (s : State) (o : Op) (found : Option Path)
    → (changed_path at s o found).state.removals ≡ s.removals
change_removals at s o None = refl
change_removals at s o (Some path) = changed_removals at s path o (effect_of path.row o)

given_removals : (at : Place) (s : State) (gift : Gift) (o : Option ℕ)
    → (given_in at s gift o).state.removals ≡ s.removals
given_removals at s gift None = refl
given_removals at s gift (Some slot) =
    elim (cases_Bool (s.order.len == 8)) [ inl full ↦ rw full refl | inr room ↦ rw room refl ]

added_removals : (at : Place) (s : State) (gift : Gift) (o : Option ℕ)
    → (given_unless at s gift o).state.removals ≡ s.removals
added_removals at s gift (Some slot) = refl
added_removals at s gift None = given_removals at s gift (free_slot s)

marked_removals : (at : Place) (s : State) (o : Option Path)
    → length (marked at s o).state.removals ≤ length s.removals + 1
marked_removals at s None = omega arith
marked_removals at s (Some path) = omega (arith, length-append s.removals (path.slot ∷ []))

unlisted_removals : (at : Place) (s : State) (slots : List ℕ) → (each (unlisted at) s slots).state.removals ≡ s.removals
unlisted_removals at s [] = refl
unlisted_removals at s (slot ∷ slots) = unlisted_removals at (unlisted at s slot).state slots

fewer_without : (slot : ℕ) (xs : List ℕ) → length (without slot xs) ≤ length xs
fewer_without slot [] = omega arith
fewer_without slot (x ∷ xs) = let rest = fewer_without slot xs in elim (cases_Bool (x == slot))
    [ inl on ↦ rw on (omega (arith, rest)) | inr off ↦ rw off (omega (arith, rest)) ]

freed_removals : (at : Place) (oldest : ℕ) (o : Option ℕ) (s : State)
    → length (freed_or_again at oldest o s).state.removals ≤ length s.removals
freed_removals at oldest None s = omega arith
freed_removals at oldest (Some slot) s = fewer_without slot s.removals

reap_removals : (at : Place) (s : State) (slots : List ℕ)
    → length (reaped_from at s slots).state.removals ≤ length s.removals
reap_removals at s [] = omega arith
reap_removals at s (oldest ∷ others) =
    let gone : List ℕ = filter (is_among (slots_of s.order)) (answers.through_first (is_idle s) (oldest ∷ others)) in
    let t : State = (each (unlisted at) s gone).state in
    let same : length t.removals ≡ length s.removals = ap length (unlisted_removals at s gone) in
    omega (arith, same, freed_removals at oldest (find (is_idle s) (oldest ∷ others)) t)

-- ---- a turn

-- what a line costs
abbrev pub line_free : Option Numbered1 → ℕ
line_free None = 0
line_free (Some l) = by l.line
  where
    by : Line → ℕ
    by (line.Submit req node) = 1
    by (line.Finish req) = 0
    by line.FinishAll = 0
    by line.Requeue = 0
    by (line.Log ctrl box) = 1
    by (line.Ctrl ctrl cstate) = 1
    by (line.Anatt ctrl) = 1
    by (line.Add ctrl box) = 2
    by (line.Remove ctrl) = 1
    by line.Reap = 16
    by (line.Policy policy) = 1

-- how many removals a line begins
abbrev pub line_begun : Option Numbered1 → ℕ
line_begun None = 0
line_begun (Some l) = by l.line
  where
    by : Line → ℕ
    by (line.Submit req node) = 0
    by (line.Finish req) = 0
    by line.FinishAll = 0
    by line.Requeue = 0
    by (line.Log ctrl box) = 0
    by (line.Ctrl ctrl cstate) = 0
    by (line.Anatt ctrl) = 0
    by (line.Add ctrl box) = 0
    by (line.Remove ctrl) = 1
    by line.Reap = 0
    by (line.Policy policy) = 0

-- what a start and its calls cost
abbrev StartCosts : Inputs → Place → ℕ → ℕ → State → Start → Type 0
StartCosts i at free begun s start =
    Costs i.answers free begun s (each (call i at) start.state start.calls).state
    (calls_made i at start.state start.calls)

page_costs : (i : Inputs) (at : Place) (s : State) (read : Result Page PageError) (made : Page → Call) (free : ℕ)
    → ((page : Page) → Costs i.answers free 0 s (call i at s (made page)).state (calls_made i at s (made page ∷ [])))
    → StartCosts i at free 0 s (by_page s read made)
page_costs i at s (Ok page) made free of = of page
page_costs i at s (Err error) made free of =
    costs_more i.answers 0 free 0 0 s s [] (omega arith) (omega arith) (costs_none i.answers s)

added_costs : (i : Inputs) (at : Place) (s : State) (gift : Gift)
    → Costs i.answers 2 0 s (call i at s (add gift)).state (calls_made i at s (add gift ∷ []))
added_costs i at s gift = let same = ap length (added_removals at s gift (slot_with s gift.ctrl)) in said_cost i at s
    (add gift) 2 0 (says_added at s gift) (omega arith) (omega (arith, same))

adds_costs : (i : Inputs) (at : Place) (s : State) (ctrl : ℕ) (box : Option ℕ)
    → StartCosts i at 2 0 s (adds i s ctrl box)
adds_costs i at s ctrl None = added_costs i at s (gift_of i.topology.nsid ctrl None)
adds_costs i at s ctrl (Some box) =
    page_costs i at s (page_at i.pages box) (λ page. add (gift_of i.topology.nsid ctrl (Some page))) 2
    (λ page. added_costs i at s (gift_of i.topology.nsid ctrl (Some page)))

change_costs : (i : Inputs) (at : Place) (s : State) (ctrl : ℕ) (o : Op)
    → Costs i.answers 1 0 s (call i at s (change ctrl o)).state (calls_made i at s (change ctrl o ∷ []))
change_costs i at s ctrl o = let same = ap length (change_removals at s o (find (has_ctrl ctrl) (paths_of s))) in
    said_cost i at s (change ctrl o) 1 0 (says_change at s ctrl o) (omega arith) (omega (arith, same))

-- the worth of a state with a new request
added_worth : (i : Inputs) (lane : ℕ) (s : State) (req node : ℕ) → has_req req s.requests ≡ false
    → worth i.answers (start_of i lane s (line.Submit req node)).state ≤ worth i.answers s
added_worth i lane s req node new =
    let next : List Asked = (start_of i lane s (line.Submit req node)).state.requests in
    let fewer =
    left_fewer (of_paths i.answers) s.requests next
    (λ a on. ap (λ (ts : List Tried). nat_lt (attempts_of ts) a.attempt) (sym (tries_added i lane s req node a.req new)) ∙ on) in
    omega (arith, fewer)

line_costs : (i : Inputs) (at : Place) (s : State) (l : Line) (n : ℕ) (events : List Event) → at.lane < 17
    → AreNew (submit_of l) s → Holds i.answers s [] events
    → StartCosts i at (line_free (Some (record { number = n; line = l }))) (line_begun (Some (record { number = n; line = l }))) s (start_of i at.lane s l)
line_costs i at s (line.Submit req node) n events lt new holds =
    let start : Start = start_of i at.lane s (line.Submit req node) in
    let fresh : has_req req s.requests ≡ false = new req (rw (eq-eqb req req refl) refl) in
    let now = added_holds i at.lane s req node events fresh holds in
    let cost = submits_cost i at start.state (req ∷ []) events lt now in
    let less = added_worth i at.lane s req node fresh in
    record { cost = omega (arith, cost.cost, less); removals = cost.removals }
line_costs i at s (line.Finish req) n events lt new holds =
    finishes_cost i at s (flights_with req (flights_of at.lane s)) [] events lt
    (of-filter at.lane (λ f. f.req == req) (flights_of at.lane s) (holds.seated.home at.lane))
    (λ r. flown_some r (λ f. f.req == req) (flights_of at.lane s)) holds
line_costs i at s line.FinishAll n events lt new holds =
    finishes_cost i at s (flights_of at.lane s) [] events lt (holds.seated.home at.lane) (λ r. omega arith) holds
line_costs i at s line.Requeue n events lt new holds =
    let t : State = record s { waiting = [] } in
    let cost = submits_cost i at t s.waiting events lt (taken_holds i.answers s events holds) in
    record { cost = omega (arith, cost.cost); removals = cost.removals }
line_costs i at s (line.Log ctrl box) n events lt new holds =
    page_costs i at s (page_at i.pages box) (reads_log i.topology.nsid ctrl) 1
    (λ page. change_costs i at s ctrl (op.Log (state_for page i.topology.nsid) (changing page)))
line_costs i at s (line.Ctrl ctrl to) n events lt new holds = change_costs i at s ctrl (op.Ctrl to)
line_costs i at s (line.Anatt ctrl) n events lt new holds = change_costs i at s ctrl op.Expire
line_costs i at s (line.Add ctrl box) n events lt new holds = adds_costs i at s ctrl box
line_costs i at s (line.Remove ctrl) n events lt new holds =
    said_cost i at s (remove ctrl) 1 1 (says_removed at s ctrl) (omega arith)
    (marked_removals at s (find (λ path. has_ctrl ctrl path && not (is_among s.removals path.slot)) (paths_of s)))
line_costs i at s line.Reap n events lt new holds =
    said_cost i at s reap 16 0 (says_reap at s) (omega arith) (omega (arith, reap_removals at s s.removals))
line_costs i at s (line.Policy policy) n events lt new holds =
    said_cost i at s (set_policy policy) 1 0
    (record { requests = refl; flights = refl; waiting = refl; said = (tt, tt) }) (omega arith) (omega arith)

pub turn_costs : (i : Inputs) (lane : ℕ) (s : State) (turn : Option Numbered1) (events : List Event) → lane < 17
    → AreNew (submit_in turn) s → Holds i.answers s [] events
    → Costs i.answers (line_free turn) (line_begun turn) s (turn_step i lane s turn).state (turn_calls i lane s turn)
turn_costs i lane s None events lt new holds =
    finishes_cost i (place_of lane None) s (flights_of lane s) [] events lt (holds.seated.home lane) (λ r. omega arith)
    holds
turn_costs i lane s (Some l) events lt new holds =
    line_costs i (place_of lane (Some l)) s l.line l.number events lt new holds

-- ---- the drain

request_costs : (i : Inputs) (s : State) (req : ℕ) (others : List ℕ) (events : List Event)
    → Holds i.answers s (req ∷ others) events
    → Costs i.answers 1 0 s (sends_and_finishes i s req).state (request_calls i s req)
request_costs i s req others events holds =
    let t : State = (call i drain_place s (submit req)).state in
    let lt : 16 < 17 = omega arith in
    let after = submit_holds i.answers i.topology.near 16 s req others events lt holds in
    let fs : List Flight = flights_of 16 t in
    costs_both i.answers 1 0 0 0 s t (each (call i drain_place) t (map finish fs)).state
    (called i drain_place s (submit req) ∷ []) (calls_made i drain_place t (map finish fs))
    (one_submit i drain_place s req others events holds)
    (finishes_cost i drain_place t fs others (events ++ (call i drain_place s (submit req)).events) lt (after.seated.home 16) (λ r. omega arith) after)

requests_cost : (i : Inputs) (s : State) (reqs : List ℕ) (events : List Event) → Holds i.answers s reqs events
    → Costs i.answers (length reqs) 0 s (each (sends_and_finishes i) s reqs).state (requests_calls i s reqs)
requests_cost i s [] events holds = costs_none i.answers s
requests_cost i s (req ∷ reqs) events holds =
    let one : Stepped = sends_and_finishes i s req in
    costs_more i.answers (1 + length reqs) (length (req ∷ reqs)) 0 0 s
    (each (sends_and_finishes i) one.state reqs).state (request_calls i s req ++ requests_calls i one.state reqs)
    (omega arith) (omega arith)
    (costs_both i.answers 1 (length reqs) 0 0 s one.state (each (sends_and_finishes i) one.state reqs).state (request_calls i s req) (requests_calls i one.state reqs) (request_costs i s req reqs events holds)
    (requests_cost i one.state reqs (events ++ one.events) (sends_leave i s req reqs events holds)))

round_costs : (i : Inputs) (s : State) (events : List Event) → Holds i.answers s [] events
    → Costs i.answers 0 0 s (round i s).state (round_calls i s)
round_costs i s events holds =
    let t : State = record s { waiting = [] } in
    let cost = requests_cost i t s.waiting events (taken_holds i.answers s events holds) in
    record { cost = omega (arith, cost.cost); removals = cost.removals }

rounds_cost : (i : Inputs) (n : ℕ) (s : State) (events : List Event) → Holds i.answers s [] events
    → Costs i.answers 0 0 s (rounds_from i n (round i s)).state (rounds_calls i n s)
rounds_cost i zero s events holds = round_costs i s events holds
rounds_cost i (suc n) s events holds =
    let t : State = (round i s).state in
    let one = round_costs i s events holds in
    elim (cases_Bool (list_any is_sent (round i s).events)) [
      | inl on ↦ rw on
          (costs_both i.answers 0 0 0 0 s t (rounds_from i n (round i t)).state (round_calls i s) (rounds_calls i n t) one (rounds_cost i n t (events ++ (round i s).events) (round_leaves i s events holds)))
      | inr off ↦ rw off (costs_both i.answers 0 0 0 0 s t t (round_calls i s) [] one (costs_none i.answers t))
    ]

reaps_price : (i : Inputs) (s : State) (slots : List ℕ)
    → (prices (calls_made i drain_place s (map (λ slot. reap) slots)) ≡ 16 * length slots)
reaps_price i s [] = refl
reaps_price i s (slot ∷ slots) = let rest = reaps_price i (call i drain_place s reap).state slots in omega (arith, rest)

-- the drain costs no more than its state is worth, what is listed, and sixteen for each removal
pub drain_costs : (i : Inputs) (s : State) (events : List Event) → Holds i.answers s [] events
    → prices (drain_calls i s) ≤ worth i.answers s + listed_in (drain_calls i s) + 16 * length s.removals
drain_costs i s events holds =
    let t : State = (reaps s).state in
    let says : Says s (reaps s) = says_reaps s s.removals in
    let same : worth i.answers t ≡ worth i.answers s =
    λ j. length (says.waiting j) + 2 * left (of_paths i.answers) (says.requests j) in
    let after = holds_says i.answers s (reaps s) [] events says holds in
    let rest = rounds_cost i (most_rounds i t) t (events ++ (reaps s).events) after in
    let cs : List Called = calls_made i drain_place s (map (λ slot. reap) s.removals) in
    let ds : List Called = rounds_calls i (most_rounds i t) t in
    omega (arith, rest.cost, same, reaps_price i s s.removals, prices-append cs ds, listed-append cs ds)
