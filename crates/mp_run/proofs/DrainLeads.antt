-- The drain's requests are those of the plain run.
use Rattle.std.proofs.Common.{[], ◌≡◌, ℕ, zero, suc, ◌+◌, ◌-◌, ◌==◌, ◌||◌, Bool, true, false, cond, nat_lt, List, ◌∷◌, ◌++◌, map, length, count_by, ◌<◌, ◌⊎◌, Option, None, Some, inl, inr, refl, sym, ap, ◌∙◌, subst, arith, append_assoc, append-nil}
use Rattle.std.specs.List.{AllByRecursion, flat_map, list_any}
use Rattle.std.proofs.lemmas.Bool.{cases_Bool}
use Rattle.std.proofs.lemmas.List.Folds.{list_any-append}
use Rattle.std.proofs.lemmas.List.{append_cancel_left}
use Rattle.std.proofs.lemmas.List.Sums.{sum_by-append, sum_by-cons}
use Rattle.std.proofs.lemmas.Bool.Decides.{nat_tests}
use Rattle.mp_checks.specs.Marks.{has}
use Rattle.mp_words.specs.declared.entry.RowEntry.{RowEntry}
use Rattle.mp_words.specs.declared.entry.OrderEntry.{OrderEntry}
use Rattle.mp_words.specs.declared.flight.Flight.{Flight}
use Rattle.mp_words.specs.declared.trying.TryEnd.{TryEnd}
use Rattle.mp_words.specs.declared.trying.TryEnd.TheVariants as end
use Rattle.mp_words.specs.declared.trying.Back.{Back}
use Rattle.mp_words.specs.RequestView.{RequestView}
use Rattle.mp_record.specs.declared.event.Event.{Event}
use Rattle.mp_record.specs.declared.event.Event.TheVariants.{Try}
use Rattle.mp_script.specs.Distinct.{IsDistinct}
use Rattle.mp_core.specs.Memory.{Memory}
use Rattle.mp_desk.specs.declared.flying.Flying.{Flying}
use Rattle.mp_desk.specs.DeskView.{DeskView, landing, placing}
use Rattle.mp_desk.specs.Calls.{After, CallsTo, DeskCall, FlightEnds, FlightStays, Means, Stand, Submitting, at_desk, finish, submit}
use Rattle.mp_legal.specs.Drain.{drain_place, is_sent}
use Rattle.mp_legal.specs.PlainCall as plain
use Rattle.mp_legal.specs.PlainCall.{Inputs, call}
use Rattle.mp_legal.specs.PlainFinish.{finished}
use Rattle.mp_legal.specs.PlainLine.{flights_of}
use Rattle.mp_legal.specs.PlainState.{State}
use Rattle.mp_legal.specs.Stepped.{Place, Stepped, each, joined, tells}
use Rattle.mp_legal.specs.ToldDesks.{GoesBy, IsSameIn, KeepsIn, Leads, MaySubmit, SitsAt, number_of, place_at, plain_of, submitted_by, times, told_events}
use Rattle.mp_legal.specs.ToldKeeper.{orders_in}
use Rattle.mp_legal.specs.ToldState.{Beside, state_in}
use Rattle.mp_legal.specs.Units.{Paid, came_back, each_paid, pay_call, pay_request, paid_then}
use Rattle.mp_run.specs.DeskLaws.{DeskLaws}
use Rattle.mp_run.specs.Draining.{EachStops, EachTo, SendStops, SendsTo, some_fly}
use Rattle.mp_run.proofs.Distinct.{has-append}
use Rattle.mp_run.proofs.LaneLeads.{told_append}
use Rattle.mp_run.proofs.LaneStarts.{often}

-- A step of the plain run leads the drain on: no request has changed but those of these numbers, and those that were
-- added are at the desk beside those that were there.
pub record Drained (step : Stepped) (about added : List ℕ) (p q : Stand) (before : List ℕ) (m : Memory) (x : Beside) : Type 0 where
  pub memory : Memory
  pub beside : Beside
  pub sits : SitsAt q before memory beside
  pub state : step.state ≡ state_in memory beside
  pub rows : q.desk.rows ≡ p.desk.rows ++ step.rows
  pub orders : orders_in q.keeper.entries ≡ orders_in p.keeper.entries ++ step.orders
  pub events : told_events q.desk.events ≡ told_events p.desk.events ++ step.events
  pub keeper : KeepsIn p m x → KeepsIn q memory beside
  pub lane : q.core.lane ≡ p.core.lane
  pub requests : (req : ℕ) → has about req ≡ false → IsSameIn req x beside
  pub desk : (req : ℕ) → times req q.desk ≡ times req p.desk + often req added

or_false : (a b : Bool) → (a || b) ≡ false → (a ≡ false) × (b ≡ false)
or_false true b e = absurd cc
or_false false b e = (refl, e)

pub has_parts : (xs ys : List ℕ) (n : ℕ) → has (xs ++ ys) n ≡ false → (has xs n ≡ false) × (has ys n ≡ false)
has_parts [] ys n e = (refl, e)
has_parts (x ∷ xs) ys n e =
    let parts = or_false (x == n) (has (xs ++ ys) n) e in
    let rest = has_parts xs ys n parts.1 in
    (rw parts.0 rest.0, rest.1)

pub often_append : (req : ℕ) (ms ns : List ℕ) → often req (ms ++ ns) ≡ often req ms + often req ns
often_append req ms ns = sum_by-append (λ (k : ℕ). cond (k == req) 1 0) ms ns

-- nothing is done
pub drained_none : (p : Stand) (before : List ℕ) (m : Memory) (x : Beside) → SitsAt p before m x → Drained (tells (state_in m x) []) [] [] p p before m x
drained_none p before m x h = record {
  memory = m;
  beside = x;
  sits = h;
  state = refl;
  rows = sym (append-nil p.desk.rows);
  orders = sym (append-nil (orders_in p.keeper.entries));
  events = sym (append-nil (told_events p.desk.events));
  keeper = λ k. k;
  lane = refl;
  requests = λ req off. record { there = refl; told = refl; read = refl };
  desk = λ req. omega arith;
}

-- a step, and then another from where it leads
pub drained_then : (first next : Stepped) (about more added plus : List ℕ) (p r q : Stand) (before : List ℕ) (m : Memory) (x : Beside) → (one : Drained first about added p r before m x) → Drained next more plus r q before one.memory one.beside
    → Drained (joined first next) (about ++ more) (added ++ plus) p q before m x
drained_then first next about more added plus p r q before m x one two = record {
  memory = two.memory;
  beside = two.beside;
  sits = two.sits;
  state = two.state;
  rows = two.rows ∙ ap (λ (es : List RowEntry). es ++ next.rows) one.rows ∙ append_assoc p.desk.rows first.rows next.rows;
  orders = two.orders ∙ ap (λ (es : List OrderEntry). es ++ next.orders) one.orders ∙ append_assoc (orders_in p.keeper.entries) first.orders next.orders;
  events = two.events ∙ ap (λ (es : List Event). es ++ next.events) one.events ∙ append_assoc (told_events p.desk.events) first.events next.events;
  keeper = λ k. two.keeper (one.keeper k);
  lane = two.lane ∙ one.lane;
  requests = λ req off. let parts = has_parts about more req off in
      let a = one.requests req parts.0 in
      let b = two.requests req parts.1 in
      record { there = b.there ∙ a.there; told = b.told ∙ a.told; read = b.read ∙ a.read };
  desk = λ req. let a = one.desk req in let b = two.desk req in let c = often_append req added plus in omega (arith, a, b, c);
}

-- calls that the drain made
pub drained_calls : (laws : DeskLaws) (w : Means) (step : Stepped) (cs : List DeskCall) (p q : Stand) (before : List ℕ) (m : Memory) (x : Beside) → CallsTo w cs p q → Leads step cs p q before m x
    → Drained step (flat_map number_of cs) (flat_map submitted_by cs) p q before m x
drained_calls laws w step cs p q before m x to l = record {
  memory = l.memory;
  beside = l.beside;
  sits = l.sits;
  state = l.state;
  rows = l.rows;
  orders = l.orders;
  events = l.events;
  keeper = l.keeper;
  lane = l.pass.lane;
  requests = l.requests;
  desk = λ req. laws.keep_requests w cs p q to req;
}

-- what is about fewer numbers, and adds as many
pub drained_less : (step : Stepped) (about less added same : List ℕ) (p q : Stand) (before : List ℕ) (m : Memory) (x : Beside) → ((req : ℕ) → has less req ≡ false → has about req ≡ false) → ((req : ℕ) → often req added ≡ often req same)
    → Drained step about added p q before m x → Drained step less same p q before m x
drained_less step about less added same p q before m x fewer equal d = record {
  memory = d.memory;
  beside = d.beside;
  sits = d.sits;
  state = d.state;
  rows = d.rows;
  orders = d.orders;
  events = d.events;
  keeper = d.keeper;
  lane = d.lane;
  requests = λ req off. d.requests req (fewer req off);
  desk = λ req. let a = d.desk req in let b = equal req in omega (arith, a, b);
}

-- ---- what flies at the desk

-- what flies once a try of a request has ended so, where nothing flew
abbrev flown : ℕ → RequestView → TryEnd → List Flying
flown lane r (end.Sent slot version) = let flight : Flight = record { slot = slot; version = version; req = r.id; lane = lane } in record { flight = flight; request = r } ∷ []
flown lane r end.Listed = []
flown lane r end.Failed = []

placed_flying : (lane : ℕ) (r : RequestView) (e : TryEnd) (d : DeskView) → d.flying ≡ [] → (placing lane r e d).flying ≡ flown lane r e
placed_flying lane r (end.Sent slot version) d none = ap (λ (fs : List Flying). fs ++ flown lane r (end.Sent slot version)) none
placed_flying lane r end.Listed d none = none
placed_flying lane r end.Failed d none = none

submitted_flying : (w : Means) (r : RequestView) (p q : Stand) (s : Submitting w r p q) → p.desk.flying ≡ [] → q.desk.flying ≡ flown p.core.lane s.after s.made.end
submitted_flying w r p q s none = ap (λ (d : DeskView). d.flying) s.desk ∙ placed_flying p.core.lane s.after s.made.end _ none

landed_flying : (r : RequestView) (back : Option Back) (d : DeskView) → (landing r back d).flying ≡ d.flying
landed_flying r None d = refl
landed_flying r (Some way) d = refl

after_flying : (w : Means) (f : Flying) (n : ℕ) (p q : Stand) → After n (FlightStays w f) (FlightEnds w f) p q → q.desk.flying ≡ p.desk.flying
after_flying w f zero p q to = ap (λ (d : DeskView). d.flying) to.desk ∙ landed_flying to.after _ _
after_flying w f (suc n) p q to = after_flying w f n to.0 q to.2 ∙ ap (λ (d : DeskView). d.flying) to.1.desk

none_beside : (before after : List Flying) (f g : Flying) → g ∷ [] ≡ before ++ f ∷ after → before ++ after ≡ []
none_beside [] [] f g is = refl
none_beside [] (a ∷ after) f g is = absurd cc
none_beside (b ∷ []) after f g is = absurd cc
none_beside (b ∷ c ∷ before) after f g is = absurd cc

finished_flying : (w : Means) (fs : List Flying) (p q : Stand) → p.desk.flying ≡ fs → (length fs ≡ 0) ⊎ (length fs ≡ 1) → CallsTo w (map finish fs) p q → q.desk.flying ≡ []
finished_flying w [] p q is few to = ap (λ (z : Stand). z.desk.flying) to ∙ is
finished_flying w (f ∷ []) p q is few to =
    let t = to.1.goes.1 in
    ap (λ (z : Stand). z.desk.flying) to.2 ∙ after_flying w f to.1.goes.0 (at_desk t.desk p) to.0 t.goes ∙ ap (λ (d : DeskView). d.flying) t.takes.is ∙ none_beside t.takes.before t.takes.after f f (sym is ∙ t.takes.was)
finished_flying w (f ∷ g ∷ fs) p q is (inl few) to = absurd cc
finished_flying w (f ∷ g ∷ fs) p q is (inr few) to = absurd cc

flown_few : (lane : ℕ) (r : RequestView) (e : TryEnd) → (length (flown lane r e) ≡ 0) ⊎ (length (flown lane r e) ≡ 1)
flown_few lane r (end.Sent slot version) = inr refl
flown_few lane r end.Listed = inl refl
flown_few lane r end.Failed = inl refl

-- what is finished is the request's
flown_about : (lane : ℕ) (r : RequestView) (e : TryEnd) (req : ℕ) → has (r.id ∷ []) req ≡ false → has (flat_map number_of (map finish (flown lane r e))) req ≡ false
flown_about lane r (end.Sent slot version) req off = off
flown_about lane r end.Listed req off = refl
flown_about lane r end.Failed req off = refl

finishes_add : (fs : List Flying) → flat_map submitted_by (map finish fs) ≡ []
finishes_add [] = refl
finishes_add (f ∷ fs) = finishes_add fs

-- ---- a request that was sent or not

placed_events : (lane : ℕ) (r : RequestView) (e : TryEnd) (d : DeskView) → (placing lane r e d).events ≡ d.events
placed_events lane r (end.Sent slot version) d = refl
placed_events lane r end.Listed d = refl
placed_events lane r end.Failed d = refl

or_last : (a : Bool) → (a || false) ≡ a
or_last true = refl
or_last false = refl

or_none : (a b : Bool) → b ≡ false → (a || b) ≡ a
or_none true b e = refl
or_none false b e = e

flown_sent : (lane : ℕ) (r : RequestView) (hop req : ℕ) (e : TryEnd) → some_fly (flown lane r e) ≡ is_sent (Try req hop e)
flown_sent lane r hop req (end.Sent slot version) = refl
flown_sent lane r hop req end.Listed = refl
flown_sent lane r hop req end.Failed = refl

-- no end is a try
ends_unsent : (i : Inputs) (at : Place) (s : State) (left : ℕ) (fs : List Flight) → list_any is_sent (each_paid (pay_call i at) s left (map plain.finish fs)).step.events ≡ false
ends_unsent i at s left [] = refl
ends_unsent i at s left (f ∷ fs) =
    elim (cases_Bool (nat_lt left 1)) [
      | inl short ↦ rw short refl
      | inr enough ↦ rw enough (ends_unsent i at (finished i.answers at.lane s f).state (left - count_by came_back (finished i.answers at.lane s f).events) fs)
    ]

pub then_paid : (first : Paid) (next : State → ℕ → Paid) (left : ℕ) (more : Paid) → first.left ≡ Some left → next first.step.state left ≡ more → paid_then first next ≡ record { step = joined first.step more.step; left = more.left }
then_paid first next left more is so = rw is (rw so refl)

request_paid : (i : Inputs) (s : State) (left req : ℕ) (one two : Stepped) (mid after : ℕ) → pay_call i drain_place s left (plain.submit req) ≡ record { step = one; left = Some mid }
    → each_paid (pay_call i drain_place) one.state mid (map plain.finish (flights_of 16 one.state)) ≡ record { step = two; left = Some after } → pay_request i s left req ≡ record { step = joined one two; left = Some after }
request_paid i s left req one two mid after first next =
    ap (λ (p : Paid). paid_then p (λ t rest. each_paid (pay_call i drain_place) t rest (map plain.finish (flights_of 16 t)))) first
    ∙ then_paid (record { step = one; left = Some mid }) (λ t rest. each_paid (pay_call i drain_place) t rest (map plain.finish (flights_of 16 t))) mid (record { step = two; left = Some after }) refl next

-- What a request led to that the drain submitted and finished.
pub record SendGoes (paid : Paid) (sent : Bool) (req : ℕ) (p q : Stand) (before : List ℕ) (m : Memory) (x : Beside) : Type 0 where
  pub drained : Drained paid.step (req ∷ []) (req ∷ []) p q before m x
  pub left : paid.left ≡ Some q.core.view.left
  pub empty : q.desk.flying ≡ []
  pub sent_is : sent ≡ list_any is_sent paid.step.events

pub send_goes : (laws : DeskLaws) (i : Inputs) (w : Means) (r : RequestView) (sent : Bool) (p q : Stand) (before : List ℕ) (m : Memory) (x : Beside) → GoesBy i w → w.line ≡ 0 → p.core.lane ≡ 16 → SitsAt p before m x → MaySubmit r p x → p.desk.flying ≡ []
    → SendsTo w r sent p q → SendGoes (pay_request i (state_in m x) p.core.view.left r.id) sent r.id p q before m x
unfolding drained_calls
send_goes laws i w r sent p q before m x by line here sits may none to = subst (λ (z : Paid). SendGoes z sent r.id p q before m x) (sym paid) (record {
  drained = drained_less (joined step1 step2) (flat_map number_of (submit r ∷ []) ++ flat_map number_of (map finish fs)) (r.id ∷ []) (flat_map submitted_by (submit r ∷ []) ++ flat_map submitted_by (map finish fs)) (r.id ∷ []) p q before m x about
      (λ req. ap (λ (ns : List ℕ). often req (r.id ∷ ns)) (finishes_add fs))
      (drained_then step1 step2 (flat_map number_of (submit r ∷ [])) (flat_map number_of (map finish fs)) (flat_map submitted_by (submit r ∷ [])) (flat_map submitted_by (map finish fs)) p mid q before m x
      (drained_calls laws w step1 (submit r ∷ []) p mid before m x (mid, to.submits, refl) l1) (drained_calls laws w step2 (map finish fs) mid q before l1.memory l1.beside to.finishes l2));
  left = refl;
  empty = finished_flying w fs mid q refl few to.finishes;
  sent_is = to.sent_is ∙ ap some_fly flying ∙ flown_sent p.core.lane s.after s.made.hop s.after.id s.made.end ∙ sym (or_last (is_sent tried)) ∙ ap (list_any is_sent) (sym events) ∙ sym (list_any-append is_sent step1.events step2.events ∙ or_none (list_any is_sent step1.events) (list_any is_sent step2.events) unsent);
})
  where
    mid : Stand
    mid = to.mid

    s : Submitting w r p mid
    s = to.submits.goes

    fs : List Flying
    fs = mid.desk.flying

    step1 : Stepped
    step1 = call i (place_at w p) (state_in m x) (plain.submit r.id)

    l1 : Leads step1 (submit r ∷ []) p mid before m x
    l1 = (laws.call_is i w (submit r) p mid before m x by sits may to.submits).0

    here2 : mid.core.lane ≡ 16
    here2 = l1.pass.lane ∙ here

    step2 : Stepped
    step2 = each (call i (place_at w mid)) (state_in l1.memory l1.beside) (map plain_of (map finish fs))

    l2 : Leads step2 (map finish fs) mid q before l1.memory l1.beside
    l2 = (laws.calls_are i w (map finish fs) mid q before l1.memory l1.beside by l1.sits (laws.may_finish mid l1.memory l1.beside fs).0 to.finishes).0

    place1 : place_at w p ≡ drain_place
    place1 = λ j. record { lane = here j; line = line j }

    place2 : place_at w mid ≡ drain_place
    place2 = λ j. record { lane = here2 j; line = line j }

    pay1 : pay_call i drain_place (state_in m x) p.core.view.left (plain.submit r.id) ≡ record { step = step1; left = Some mid.core.view.left }
    pay1 = ap (λ (at : Place). pay_call i at (state_in m x) p.core.view.left (plain.submit r.id)) (sym place1) ∙ (laws.call_is i w (submit r) p mid before m x by sits may to.submits).2

    calls_are : map plain.finish (flights_of 16 step1.state) ≡ map plain_of (map finish fs)
    calls_are =
        ap (λ (t : State). map plain.finish (flights_of 16 t)) l1.state ∙ ap (λ (n : ℕ). map plain.finish (flights_of n (state_in l1.memory l1.beside))) (sym here2)
        ∙ ap (map plain.finish) (laws.has_flights mid before l1.memory l1.beside l1.sits).0 ∙ sym (laws.may_finish mid l1.memory l1.beside fs).1

    pay2 : each_paid (pay_call i drain_place) step1.state mid.core.view.left (map plain.finish (flights_of 16 step1.state)) ≡ record { step = step2; left = Some q.core.view.left }
    pay2 =
        (λ j. each_paid (pay_call i (sym place2 j)) (l1.state j) mid.core.view.left (calls_are j))
        ∙ (laws.calls_are i w (map finish fs) mid q before l1.memory l1.beside by l1.sits (laws.may_finish mid l1.memory l1.beside fs).0 to.finishes).1

    paid : pay_request i (state_in m x) p.core.view.left r.id ≡ record { step = joined step1 step2; left = Some q.core.view.left }
    paid = request_paid i (state_in m x) p.core.view.left r.id step1 step2 mid.core.view.left q.core.view.left pay1 pay2

    flying : fs ≡ flown p.core.lane s.after s.made.end
    flying = submitted_flying w r p mid s none

    few : (length fs ≡ 0) ⊎ (length fs ≡ 1)
    few = subst (λ (gs : List Flying). (length gs ≡ 0) ⊎ (length gs ≡ 1)) (sym flying) (flown_few p.core.lane s.after s.made.end)

    id : s.after.id ≡ r.id
    id = s.submits.id ∙ ap (λ (z : RequestView). z.id) s.same

    about : (req : ℕ) → has (r.id ∷ []) req ≡ false → has ((r.id ∷ []) ++ flat_map number_of (map finish fs)) req ≡ false
    about req off =
        let rest : has (flat_map number_of (map finish fs)) req ≡ false =
        ap (λ (gs : List Flying). has (flat_map number_of (map finish gs)) req) flying ∙ flown_about p.core.lane s.after s.made.end req (ap (λ n. has (n ∷ []) req) id ∙ off) in
        has-append (r.id ∷ []) (flat_map number_of (map finish fs)) req ∙ or_none (has (r.id ∷ []) req) (has (flat_map number_of (map finish fs)) req) rest ∙ off

    tried : Event
    tried = Try s.after.id s.made.hop s.made.end

    events : step1.events ≡ tried ∷ []
    events =
        append_cancel_left (told_events p.desk.events) step1.events (tried ∷ [])
        (sym l1.events ∙ ap (λ (d : DeskView). told_events d.events) s.desk ∙ ap told_events (placed_events p.core.lane s.after s.made.end _) ∙ told_append p.desk.events _)

    unsent : list_any is_sent step2.events ≡ false
    unsent = ap (λ (z : Paid). list_any is_sent z.step.events) (sym pay2) ∙ ends_unsent i drain_place step1.state mid.core.view.left (flights_of 16 step1.state)

-- ---- each of these requests

-- What requests led to that the drain submitted and finished.
pub record EachGoes (paid : Paid) (any : Bool) (ns : List ℕ) (p q : Stand) (before : List ℕ) (m : Memory) (x : Beside) : Type 0 where
  pub drained : Drained paid.step ns ns p q before m x
  pub left : paid.left ≡ Some q.core.view.left
  pub empty : q.desk.flying ≡ []
  pub sent_is : any ≡ list_any is_sent paid.step.events

eq_swap : (a b : ℕ) → (a == b) ≡ false → (b == a) ≡ false
eq_swap a b e = grind (arith, nat_tests)

-- what may be submitted may still be once another request was
may_still : (n : ℕ) (rs : List RequestView) (p q : Stand) (x y : Beside) → has (map (λ r. r.id) rs) n ≡ false → ((req : ℕ) → has (n ∷ []) req ≡ false → IsSameIn req x y) → ((req : ℕ) → times req q.desk ≡ times req p.desk + often req (n ∷ []))
    → AllByRecursion (λ r. MaySubmit r p x) rs → AllByRecursion (λ r. MaySubmit r q y) rs
may_still n [] p q x y off same desk may = tt
may_still n (r ∷ rs) p q x y off same desk may =
    let parts = or_false (r.id == n) (has (map (λ (z : RequestView). z.id) rs) n) off in
    let other : (n == r.id) ≡ false = eq_swap r.id n parts.0 in
    let apart : has (n ∷ []) r.id ≡ false = ap (λ (b : Bool). b || false) other in
    let s = same r.id apart in
    let t = may.0.stands in
    (record { stands = record { there = s.there ∙ t.there; told = s.told ∙ t.told; read = t.read ∙ sym s.read }; elsewhere = desk r.id ∙ zero_of (n == r.id) other (times r.id p.desk) may.0.elsewhere }, may_still n rs p q x y parts.1 same desk may.1)
  where
    zero_of : (b : Bool) → (n == r.id) ≡ false → (k : ℕ) → k ≡ 0 → k + often r.id (n ∷ []) ≡ 0
    zero_of b off k e = let one = sum_by-cons (λ (z : ℕ). cond (z == r.id) 1 0) n [] in let none : ◌≡◌ {A = ℕ} (cond (n == r.id) 1 0) 0 = ap (λ (c : Bool). cond c 1 0) off in omega (arith, one, none, e)

each_next : (i : Inputs) (r : RequestView) (rs : List RequestView) (any sent more_sent : Bool) (p mid q : Stand) (before : List ℕ) (m : Memory) (x : Beside) (one : SendGoes (pay_request i (state_in m x) p.core.view.left r.id) sent r.id p mid before m x)
    → EachGoes (each_paid (pay_request i) (state_in one.drained.memory one.drained.beside) mid.core.view.left (map (λ r. r.id) rs)) more_sent (map (λ r. r.id) rs) mid q before one.drained.memory one.drained.beside → any ≡ (sent || more_sent)
    → EachGoes (each_paid (pay_request i) (state_in m x) p.core.view.left (r.id ∷ map (λ r. r.id) rs)) any (r.id ∷ map (λ r. r.id) rs) p q before m x
each_next i r rs any sent more_sent p mid q before m x one rest is = subst (λ (z : Paid). EachGoes z any (r.id ∷ ids) p q before m x) (sym paid) (record {
  drained = drained_then first.step more.step (r.id ∷ []) ids (r.id ∷ []) ids p mid q before m x one.drained rest.drained;
  left = rest.left;
  empty = rest.empty;
  sent_is = is ∙ (λ j. one.sent_is j || rest.sent_is j) ∙ sym (list_any-append is_sent first.step.events more.step.events);
})
  where
    ids : List ℕ
    ids = map (λ z. z.id) rs

    first : Paid
    first = pay_request i (state_in m x) p.core.view.left r.id

    more : Paid
    more = each_paid (pay_request i) (state_in one.drained.memory one.drained.beside) mid.core.view.left ids

    paid : each_paid (pay_request i) (state_in m x) p.core.view.left (r.id ∷ ids) ≡ record { step = joined first.step more.step; left = more.left }
    paid = then_paid first (λ t left. each_paid (pay_request i) t left ids) mid.core.view.left more one.left (ap (λ (t : State). each_paid (pay_request i) t mid.core.view.left ids) one.drained.state)

pub each_goes : (laws : DeskLaws) (i : Inputs) (w : Means) (rs : List RequestView) (any : Bool) (p q : Stand) (before : List ℕ) (m : Memory) (x : Beside) → GoesBy i w → w.line ≡ 0 → p.core.lane ≡ 16 → SitsAt p before m x
    → AllByRecursion (λ r. MaySubmit r p x) rs → IsDistinct (map (λ r. r.id) rs) → p.desk.flying ≡ [] → EachTo w rs any p q
    → EachGoes (each_paid (pay_request i) (state_in m x) p.core.view.left (map (λ r. r.id) rs)) any (map (λ r. r.id) rs) p q before m x
each_goes laws i w [] any p q before m x by line here sits may once none to =
    subst (λ (z : Stand). EachGoes (record { step = tells (state_in m x) []; left = Some p.core.view.left }) any [] p z before m x) (sym to.1)
    (record { drained = drained_none p before m x sits; left = refl; empty = none; sent_is = to.0 })
each_goes laws i w (r ∷ rs) any p q before m x by line here sits may once none to =
    let mid : Stand = to.0 in
    let one : SendGoes (pay_request i (state_in m x) p.core.view.left r.id) to.1 r.id p mid before m x = send_goes laws i w r to.1 p mid before m x by line here sits may.0 none to.3 in
    let d = one.drained in
    let rest = each_goes laws i w rs to.2 mid q before d.memory d.beside by line (d.lane ∙ here) d.sits (may_still r.id rs p mid x d.beside once.0 d.requests d.desk may.1) once.1 one.empty to.4 in
    each_next i r rs any to.1 to.2 p mid q before m x one rest to.5

-- ---- units that are short

short_call : (i : Inputs) (at : Place) (s : State) (left req : ℕ) → left < 1 → (pay_call i at s left (plain.submit req)).left ≡ None
short_call i at s left req short = let is : nat_lt left 1 ≡ true = grind (arith, nat_tests) in rw is refl

pub then_none : (first : Paid) (next : State → ℕ → Paid) → first.left ≡ None → (paid_then first next).left ≡ None
then_none first next is = rw is refl

then_short : (first : Paid) (next : State → ℕ → Paid) (left : ℕ) → first.left ≡ Some left → (next first.step.state left).left ≡ None → (paid_then first next).left ≡ None
then_short first next left is so = rw is so

pub send_short : (laws : DeskLaws) (i : Inputs) (w : Means) (r : RequestView) (p q : Stand) (before : List ℕ) (m : Memory) (x : Beside) → GoesBy i w → w.line ≡ 0 → p.core.lane ≡ 16 → SitsAt p before m x → MaySubmit r p x
    → SendStops w r p q → (pay_request i (state_in m x) p.core.view.left r.id).left ≡ None
send_short laws i w r p q before m x by line here sits may (inl stop) =
    then_none (pay_call i drain_place (state_in m x) p.core.view.left (plain.submit r.id)) (λ t rest. each_paid (pay_call i drain_place) t rest (map plain.finish (flights_of 16 t))) (short_call i drain_place (state_in m x) p.core.view.left r.id stop.0)
send_short laws i w r p q before m x by line here sits may (inr to) =
    then_short (pay_call i drain_place (state_in m x) p.core.view.left (plain.submit r.id)) (λ t rest. each_paid (pay_call i drain_place) t rest (map plain.finish (flights_of 16 t))) mid.core.view.left
    (ap (λ (z : Paid). z.left) pay1) (ap (λ (z : Paid). (each_paid (pay_call i drain_place) z.step.state mid.core.view.left (map plain.finish (flights_of 16 z.step.state))).left) pay1 ∙ rest)
  where
    mid : Stand
    mid = to.0

    fs : List Flying
    fs = mid.desk.flying

    step1 : Stepped
    step1 = call i (place_at w p) (state_in m x) (plain.submit r.id)

    l1 : Leads step1 (submit r ∷ []) p mid before m x
    l1 = (laws.call_is i w (submit r) p mid before m x by sits may to.1).0

    here2 : mid.core.lane ≡ 16
    here2 = l1.pass.lane ∙ here

    place1 : place_at w p ≡ drain_place
    place1 = λ j. record { lane = here j; line = line j }

    place2 : place_at w mid ≡ drain_place
    place2 = λ j. record { lane = here2 j; line = line j }

    pay1 : pay_call i drain_place (state_in m x) p.core.view.left (plain.submit r.id) ≡ record { step = step1; left = Some mid.core.view.left }
    pay1 = ap (λ (at : Place). pay_call i at (state_in m x) p.core.view.left (plain.submit r.id)) (sym place1) ∙ (laws.call_is i w (submit r) p mid before m x by sits may to.1).2

    calls_are : map plain.finish (flights_of 16 step1.state) ≡ map plain_of (map finish fs)
    calls_are =
        ap (λ (t : State). map plain.finish (flights_of 16 t)) l1.state ∙ ap (λ (n : ℕ). map plain.finish (flights_of n (state_in l1.memory l1.beside))) (sym here2)
        ∙ ap (map plain.finish) (laws.has_flights mid before l1.memory l1.beside l1.sits).0 ∙ sym (laws.may_finish mid l1.memory l1.beside fs).1

    rest : (each_paid (pay_call i drain_place) step1.state mid.core.view.left (map plain.finish (flights_of 16 step1.state))).left ≡ None
    rest =
        (λ j. (each_paid (pay_call i (sym place2 j)) (l1.state j) mid.core.view.left (calls_are j)).left)
        ∙ (laws.stopped_are i w (map finish fs) mid q before l1.memory l1.beside by l1.sits (laws.may_finish mid l1.memory l1.beside fs).0 to.2).spent

pub each_short : (laws : DeskLaws) (i : Inputs) (w : Means) (rs : List RequestView) (p q : Stand) (before : List ℕ) (m : Memory) (x : Beside) → GoesBy i w → w.line ≡ 0 → p.core.lane ≡ 16 → SitsAt p before m x
    → AllByRecursion (λ r. MaySubmit r p x) rs → IsDistinct (map (λ r. r.id) rs) → p.desk.flying ≡ [] → EachStops w rs p q → (each_paid (pay_request i) (state_in m x) p.core.view.left (map (λ r. r.id) rs)).left ≡ None
each_short laws i w [] p q before m x by line here sits may once none to = absurd to
each_short laws i w (r ∷ rs) p q before m x by line here sits may once none (inl stop) =
    then_none (pay_request i (state_in m x) p.core.view.left r.id) (λ t left. each_paid (pay_request i) t left (map (λ (z : RequestView). z.id) rs)) (send_short laws i w r p q before m x by line here sits may.0 stop)
each_short laws i w (r ∷ rs) p q before m x by line here sits may once none (inr to) =
    let mid : Stand = to.0 in
    let one = send_goes laws i w r to.1 p mid before m x by line here sits may.0 none to.2 in
    let d = one.drained in
    let rest = each_short laws i w rs mid q before d.memory d.beside by line (d.lane ∙ here) d.sits (may_still r.id rs p mid x d.beside once.0 d.requests d.desk may.1) once.1 one.empty to.3 in
    then_short (pay_request i (state_in m x) p.core.view.left r.id) (λ t left. each_paid (pay_request i) t left (map (λ (z : RequestView). z.id) rs)) mid.core.view.left one.left
    (ap (λ (t : State). (each_paid (pay_request i) t mid.core.view.left (map (λ (z : RequestView). z.id) rs)).left) d.state ∙ rest)
