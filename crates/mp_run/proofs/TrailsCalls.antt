-- What calls leave of tries, and tell of them.
use Rattle.std.proofs.Common.{[], ◌≡◌, ◌⊎◌, inl, inr, ℕ, ◌+◌, ◌<◌, ◌≤◌, true, false, not, ◌&&◌, ◌==◌, cond, List, ◌∷◌, ◌++◌, map, filter, find, length, get_or, set, Option, Some, None, refl, sym, ap, ◌∙◌, append_assoc, append-nil, subst, arith}
use Rattle.std.specs.Prelude.{is_some}
use Rattle.std.specs.List.{last_or}
use Rattle.std.proofs.lemmas.Bool.{cases_Bool}
use Rattle.std.proofs.lemmas.List.{length-append, get_or-set_same}
use Rattle.mp_words.specs.declared.near.Near.{Near}
use Rattle.mp_words.specs.declared.answers.Answer.{Answer}
use Rattle.mp_words.specs.declared.flight.Flight.{Flight}
use Rattle.mp_words.specs.declared.path.Path.{Path}
use Rattle.mp_words.specs.declared.op.Op.{Op}
use Rattle.mp_words.specs.declared.op.Gift.{Gift}
use Rattle.mp_words.specs.declared.op.Effect.{Effect}
use Rattle.mp_words.specs.declared.op.Effect.TheVariants as effect
use Rattle.mp_words.specs.declared.trying.Back.{Back}
use Rattle.mp_words.specs.declared.trying.TryEnd.{TryEnd}
use Rattle.mp_words.specs.declared.trying.TryEnd.TheVariants.{Sent, Listed, Failed}
use Rattle.mp_words.specs.declared.trying.Outcome.TheVariants as outcome
use Rattle.mp_words.specs.Request.{Asked, Tried, attempts_of, outcome_of, sent_outcome, outcome_after}
use Rattle.mp_words.specs.Effect.{effect_of}
use Rattle.mp_words.specs.Order.{slots_of}
use Rattle.mp_words.specs.PathTable.{has_ctrl}
use Rattle.mp_status.specs.declared.class.Class.{Class}
use Rattle.mp_status.specs.declared.class.Class.TheVariants.{Complete, Failover, Retry}
use Rattle.mp_record.specs.declared.event.Event.{Event}
use Rattle.mp_record.specs.declared.event.Event.TheVariants.{Fin}
use Rattle.mp_submit.specs.Finishes.{six_of}
use Rattle.mp_legal.specs.Answers as answers
use Rattle.mp_legal.specs.Answers.{hop_statuses, class_of_hop}
use Rattle.mp_legal.specs.PlainState.{State, request_of, with_tries, paths_of}
use Rattle.mp_legal.specs.PlainCall.{Inputs, Call, submit, finish, call}
use Rattle.mp_legal.specs.PlainChange.{changed, changed_by, changed_path}
use Rattle.mp_legal.specs.PlainFinish.{finished, finished_with, ended_try, ended_tries, landed, after_back, back_of}
use Rattle.mp_legal.specs.PlainKeep.{slot_with, free_slot, given_in, given_unless, added, marked, removed, is_among, unlisted, freed_or_again, reaped_from, reaped, is_idle}
use Rattle.mp_legal.specs.PlainSubmit.{submitted, tried, end_of, choice_by}
use Rattle.mp_legal.specs.PlainLine.{flights_of}
use Rattle.mp_legal.specs.Stepped.{Stepped, Place, joined, each}
use Rattle.mp_legal.specs.Numbers.{has_req, asked_at, standing}
use Rattle.mp_run.specs.Sound.{AreOf}
use Rattle.mp_run.specs.Trails.{has_status, fails_over, IsAsScripted, AreTold}
use Rattle.mp_run.proofs.Chosen.{asked_req}
use Rattle.mp_run.proofs.Coming.{attempts-append, listed, back_waiting, back_requests, back_flights}
use Rattle.mp_run.proofs.Standing.{other_asked, this_asked, sent_there}
use Rattle.mp_run.proofs.TurnFacts.{count}
use Rattle.mp_run.proofs.TrailsTries.{last_is, SentLast, sent_last, last_ended, IsOpen, open_try, hop_has, AreOnTrail, trail_more, trail_ended}
use Rattle.mp_run.proofs.TrailsSeats.{one_and_others, flown, flies, waits, AreSeated, queue_waits, flight_sent, seated_sent, seated_failed, seated_listed, seated_ended, rest_fly, first_flies}
use Rattle.mp_run.proofs.TrailsTold.{AreSaid, told_more, told_ended, told_said, all_more}

-- What holds between calls: requests are where they stand, their tries are on the trail, and the events so far tell them.
pub record HoldsOf (answers : List Answer) (requests : List Asked) (flights : List (List Flight)) (queue : List ℕ) (events : List Event) : Type 0 where
  pub seated : AreSeated requests flights queue
  pub trails : (r : ℕ) → AreOnTrail answers r [] (asked_at r requests).tries
  pub told : AreTold requests events

-- what holds of a state; the queue is those that wait, and others
abbrev pub Holds : List Answer → State → List ℕ → List Event → Type 0
Holds answers s others events = HoldsOf answers s.requests s.flights (s.waiting ++ others) events

-- ---- one request's tries

trails_more : (answers : List Answer) (q : ℕ) (before : List Tried) (t : Tried) (requests : List Asked) → has_req q requests ≡ true → (asked_at q requests).tries ≡ before → standing q requests ≡ outcome.Waiting
    → (IsAsScripted answers q before t.end t ⊎ (outcome_of (Some t) ≡ outcome.Sent)) → ((r : ℕ) → AreOnTrail answers r [] (asked_at r requests).tries)
    → (r : ℕ) → AreOnTrail answers r [] (asked_at r (with_tries q (before ++ t ∷ []) requests)).tries
trails_more answers q before t requests there is stands how trails =
    let all : AreOnTrail answers q [] before = subst (λ (ts : List Tried). AreOnTrail answers q [] ts) is (trails q) in
    let waiting : outcome_of (last_or None before) ≡ outcome.Waiting = ap (λ (ts : List Tried). outcome_of (last_or None ts)) (sym is) ∙ stands in
    one_and_others (λ r. AreOnTrail answers r [] (asked_at r (with_tries q (before ++ t ∷ []) requests)).tries) q
    (subst (λ (a : Asked). AreOnTrail answers q [] a.tries) (sym (this_asked q (before ++ t ∷ []) requests there)) (trail_more answers q [] before before t refl all waiting how))
    (λ r other. subst (λ (a : Asked). AreOnTrail answers r [] a.tries) (sym (other_asked r q (before ++ t ∷ []) requests other)) (trails r))

trails_ended : (answers : List Answer) (q : ℕ) (before : List Tried) (t u : Tried) (requests : List Asked) → has_req q requests ≡ true → (asked_at q requests).tries ≡ before ++ t ∷ []
    → IsAsScripted answers q before u.end u → ((r : ℕ) → AreOnTrail answers r [] (asked_at r requests).tries)
    → (r : ℕ) → AreOnTrail answers r [] (asked_at r (with_tries q (before ++ u ∷ []) requests)).tries
trails_ended answers q before t u requests there is how trails =
    let all : AreOnTrail answers q [] (before ++ t ∷ []) = subst (λ (ts : List Tried). AreOnTrail answers q [] ts) is (trails q) in
    one_and_others (λ r. AreOnTrail answers r [] (asked_at r (with_tries q (before ++ u ∷ []) requests)).tries) q
    (subst (λ (a : Asked). AreOnTrail answers q [] a.tries) (sym (this_asked q (before ++ u ∷ []) requests there)) (trail_ended answers q [] before before t u refl all how))
    (λ r other. subst (λ (a : Asked). AreOnTrail answers r [] a.tries) (sym (other_asked r q (before ++ u ∷ []) requests other)) (trails r))

-- ---- a try

tried_holds : (answers : List Answer) (lane : ℕ) (s : State) (a : Asked) (end : TryEnd) (others : List ℕ) (events : List Event) → lane < 17 → (asked_at a.req s.requests).tries ≡ a.tries → Holds answers s (a.req ∷ others) events
    → Holds answers (tried lane s a end).state others (events ++ (tried lane s a end).events)
tried_holds answers lane s a Failed others events lt was holds =
    let t : Tried = record { end = Failed; statuses = []; back = None } in
    let stands = queue_waits s.requests s.flights s.waiting others a.req holds.seated in
    record {
      seated = seated_failed s.requests s.flights s.waiting others a.req (a.tries ++ t ∷ []) holds.seated (ap outcome_of (last_is None a.tries t));
      trails = trails_more answers a.req a.tries t s.requests stands.1 was stands.0 (inl (refl, refl)) holds.trails;
      told = told_more a.req a.tries t s.requests events stands.1 was refl holds.told;
    }
tried_holds answers lane s a Listed others events lt was holds =
    let t : Tried = record { end = Listed; statuses = []; back = None } in
    let stands = queue_waits s.requests s.flights s.waiting others a.req holds.seated in
    record {
      seated = seated_listed s.requests s.flights s.waiting others ((s.waiting ++ a.req ∷ []) ++ others) a.req (a.tries ++ t ∷ []) holds.seated (append_assoc s.waiting (a.req ∷ []) others) (ap outcome_of (last_is None a.tries t));
      trails = trails_more answers a.req a.tries t s.requests stands.1 was stands.0 (inl (refl, refl)) holds.trails;
      told = told_more a.req a.tries t s.requests events stands.1 was refl holds.told;
    }
tried_holds answers lane s a (Sent slot version) others events lt was holds =
    let t : Tried = record { end = Sent slot version; statuses = []; back = None } in
    let f : Flight = record { slot = slot; version = version; req = a.req; lane = lane } in
    let stands = queue_waits s.requests s.flights s.waiting others a.req holds.seated in
    record {
      seated = seated_sent s.requests s.flights s.waiting others lane a.req f (a.tries ++ t ∷ []) holds.seated lt refl refl (ap outcome_of (last_is None a.tries t));
      trails = trails_more answers a.req a.tries t s.requests stands.1 was stands.0 (inr refl) holds.trails;
      told = told_more a.req a.tries t s.requests events stands.1 was refl holds.told;
    }

pub submit_holds : (answers : List Answer) (near : Near) (lane : ℕ) (s : State) (q : ℕ) (others : List ℕ) (events : List Event) → lane < 17 → Holds answers s (q ∷ others) events
    → Holds answers (submitted near lane s q).state others (events ++ (submitted near lane s q).events)
submit_holds answers near lane s q others events lt holds =
    let a : Asked = request_of s q in
    let is : a ≡ asked_at q s.requests = refl in
    let number : a.req ≡ q = ap (λ (b : Asked). b.req) is ∙ asked_req q s.requests in
    tried_holds answers lane s a (end_of s (choice_by s.order.policy near s a.node)) others events lt
    (ap (λ n. (asked_at n s.requests).tries) number ∙ ap (λ (b : Asked). b.tries) (sym is))
    (subst (λ n. Holds answers s (n ∷ others) events) (sym number) holds)

-- ---- the end of a flight

-- a request whose flight ended isn't on its way, and waits where it came back
over_by : (back : Option Back) (n : ℕ) (ns : List ℕ) → (flies (sent_outcome back (n ∷ ns)) ≡ false) × (waits (sent_outcome back (n ∷ ns)) ≡ is_some back)
over_by (Some b) n ns = (refl, refl)
over_by None n [] = (refl, refl)
over_by None n (m ∷ ns) = over_by None m ns

came_back : (lane : ℕ) (s : State) (f : Flight) (hop : ℕ) (c : Class) → is_some (back_of lane s f hop c) ≡ fails_over c
came_back lane s f hop Complete = refl
came_back lane s f hop (Failover ana) = refl
came_back lane s f hop Retry = refl

count_listed : (back : Option Back) (q r : ℕ) → count r (listed back q) ≡ cond ((q == r) && is_some back) 1 0
count_listed None q r = elim (cases_Bool (q == r)) [ inl on ↦ rw on refl | inr off ↦ rw off refl ]
count_listed (Some b) q r = elim (cases_Bool (q == r)) [ inl on ↦ rw on refl | inr off ↦ rw off refl ]

holds_as : (answers : List Answer) (s : State) (requests : List Asked) (flights : List (List Flight)) (waiting others : List ℕ) (events : List Event) → s.requests ≡ requests → s.flights ≡ flights → s.waiting ≡ waiting
    → HoldsOf answers requests flights (waiting ++ others) events → Holds answers s others events
holds_as answers s requests flights waiting others events p q w holds =
    subst (λ (rs : List Asked). HoldsOf answers rs s.flights (s.waiting ++ others) events) (sym p)
    (subst (λ (fs : List (List Flight)). HoldsOf answers requests fs (s.waiting ++ others) events) (sym q)
    (subst (λ (ns : List ℕ). HoldsOf answers requests flights (ns ++ others) events) (sym w) holds))

ended_holds : (answers : List Answer) (s : State) (f : Flight) (others : List ℕ) (events : List Event) (before : List Tried) (t : Tried) (n : ℕ) (ns : List ℕ) (back : Option Back) → f.lane < 17 → 1 ≤ flown f.req (flights_of f.lane s) → has_req f.req s.requests ≡ true
    → (asked_at f.req s.requests).tries ≡ before ++ t ∷ [] → IsOpen t → IsAsScripted answers f.req before t.end (ended_try (n ∷ ns) back t) → Holds answers s others events
    → Holds answers (after_back f back (landed f (before ++ ended_try (n ∷ ns) back t ∷ []) s)) others (events ++ Fin f.req (length before + 1) (six_of (n ∷ ns)) (length (n ∷ ns)) back ∷ [])
ended_holds answers s f others events before t n ns back lt le there is flying how holds =
    let u : Tried = ended_try (n ∷ ns) back t in
    let left : State = landed f (before ++ u ∷ []) s in
    let over = over_by back n ns in
    let stands : outcome_of (last_or None (before ++ u ∷ [])) ≡ sent_outcome back (n ∷ ns) = ap outcome_of (last_is None before u) ∙ ap (λ (end : TryEnd). outcome_after end u) flying.sent in
    holds_as answers (after_back f back left) left.requests left.flights (s.waiting ++ listed back f.req) others _ (back_requests f back left) (back_flights f back left) (back_waiting f back left) (record {
      seated = seated_ended s.requests s.flights s.waiting others (listed back f.req) f.lane f.req (before ++ u ∷ []) holds.seated lt there le (ap flies stands ∙ over.0)
          (λ r. count_listed back f.req r ∙ ap (λ b. cond ((f.req == r) && b) 1 0) (sym (ap waits stands ∙ over.1)));
      trails = trails_ended answers f.req before t u s.requests there is how holds.trails;
      told = told_ended f.req before t (n ∷ ns) back s.requests events there is flying.statuses (ap (λ (end : TryEnd). has_status end (n ∷ ns)) flying.sent) holds.told;
    })

finished_holds : (answers : List Answer) (lane : ℕ) (s : State) (f : Flight) (tries : List Tried) (others : List ℕ) (events : List Event) → f.lane < 17 → 1 ≤ flown f.req (flights_of f.lane s) → (asked_at f.req s.requests).tries ≡ tries → Holds answers s others events
    → Holds answers (finished_with lane s f tries (hop_statuses answers f.req (attempts_of tries + 1))).state others (events ++ (finished_with lane s f tries (hop_statuses answers f.req (attempts_of tries + 1))).events)
finished_holds answers lane s f tries others events lt le is holds =
    let sent : standing f.req s.requests ≡ outcome.Sent = flight_sent s.requests s.flights (s.waiting ++ others) f.lane f.req holds.seated (omega (arith, lt, holds.seated.lanes)) le in
    let last : SentLast tries = sent_last tries (ap (λ (ts : List Tried). outcome_of (last_or None ts)) (sym is) ∙ sent) in
    let flying : IsOpen last.last = open_try last.last last.sent in
    let some = hop_has answers f.req (attempts_of last.before + 1) in
    let none : length last.last.statuses ≡ 0 = ap length flying.statuses in
    let attempts : attempts_of tries ≡ attempts_of last.before = ap attempts_of last.parts ∙ (let e = attempts-append last.before last.last in omega (arith, e, none)) in
    let statuses : hop_statuses answers f.req (attempts_of tries + 1) ≡ some.0 ∷ some.1 = ap (λ n. hop_statuses answers f.req (n + 1)) attempts ∙ some.2 in
    let back : Option Back = back_of lane s f (length tries) (class_of_hop (some.0 ∷ some.1)) in
    let how : IsAsScripted answers f.req last.before last.last.end (ended_try (some.0 ∷ some.1) back last.last) =
    subst (λ (end : TryEnd). IsAsScripted answers f.req last.before end (ended_try (some.0 ∷ some.1) back last.last)) (sym flying.sent) (sym some.2, came_back lane s f (length tries) (class_of_hop (some.0 ∷ some.1))) in
    let new : ended_tries (some.0 ∷ some.1) back tries ≡ last.before ++ ended_try (some.0 ∷ some.1) back last.last ∷ [] =
    ap (ended_tries (some.0 ∷ some.1) back) last.parts ∙ last_ended (some.0 ∷ some.1) back last.before last.last in
    let hop : length tries ≡ length last.before + 1 = ap length last.parts ∙ length-append last.before (last.last ∷ []) in
    subst (λ (ns : List ℕ). Holds answers (finished_with lane s f tries ns).state others (events ++ (finished_with lane s f tries ns).events)) (sym statuses)
    (subst (λ (ts : List Tried). Holds answers (after_back f back (landed f ts s)) others (events ++ Fin f.req (length tries) (six_of (some.0 ∷ some.1)) (length (some.0 ∷ some.1)) back ∷ [])) (sym new)
    (subst (λ h. Holds answers (after_back f back (landed f (last.before ++ ended_try (some.0 ∷ some.1) back last.last ∷ []) s)) others (events ++ Fin f.req h (six_of (some.0 ∷ some.1)) (length (some.0 ∷ some.1)) back ∷ [])) (sym hop)
    (ended_holds answers s f others events last.before last.last some.0 some.1 back lt le (sent_there f.req s.requests sent) (is ∙ last.parts) flying how holds)))

pub finish_holds : (answers : List Answer) (lane : ℕ) (s : State) (f : Flight) (others : List ℕ) (events : List Event) → f.lane < 17 → 1 ≤ flown f.req (flights_of f.lane s) → Holds answers s others events
    → Holds answers (finished answers lane s f).state others (events ++ (finished answers lane s f).events)
finish_holds answers lane s f others events lt le holds =
    finished_holds answers lane s f (request_of s f.req).tries others events lt le refl holds

-- ---- calls that tell of no try

-- the step says something, and leaves requests, flights and the list of those that wait
pub record Says (s : State) (p : Stepped) : Type 0 where
  pub requests : p.state.requests ≡ s.requests
  pub flights : p.state.flights ≡ s.flights
  pub waiting : p.state.waiting ≡ s.waiting
  pub said : AreSaid p.events

pub holds_says : (answers : List Answer) (s : State) (p : Stepped) (others : List ℕ) (events : List Event) → Says s p → Holds answers s others events → Holds answers p.state others (events ++ p.events)
holds_says answers s p others events is holds =
    holds_as answers p.state s.requests s.flights s.waiting others (events ++ p.events) is.requests is.flights is.waiting
    (record { seated = holds.seated; trails = holds.trails; told = told_said s.requests events p.events is.said holds.told })

pub says_both : (s : State) (p n : Stepped) → Says s p → Says p.state n → Says s (joined p n)
says_both s p n one two = record {
  requests = two.requests ∙ one.requests;
  flights = two.flights ∙ one.flights;
  waiting = two.waiting ∙ one.waiting;
  said = all_more _ p.events n.events one.said two.said;
}

pub says_nothing : (s : State) → Says s (record { state = s; rows = []; orders = []; events = [] })
says_nothing s = record { requests = refl; flights = refl; waiting = refl; said = tt }

says_changed : (at : Place) (s : State) (path : Path) (op : Op) (e : Effect) → Says s (changed_by at s path op e)
says_changed at s path op (effect.Changed row) = record { requests = refl; flights = refl; waiting = refl; said = (tt, tt) }
says_changed at s path op (effect.Refused cstate) = record { requests = refl; flights = refl; waiting = refl; said = (tt, tt) }
says_changed at s path op effect.NotArmed = record { requests = refl; flights = refl; waiting = refl; said = (tt, tt) }

says_path : (at : Place) (s : State) (op : Op) (o : Option Path) → Says s (changed_path at s op o)
says_path at s op None = record { requests = refl; flights = refl; waiting = refl; said = (tt, tt) }
says_path at s op (Some path) = says_changed at s path op (effect_of path.row op)

pub says_change : (at : Place) (s : State) (ctrl : ℕ) (op : Op) → Says s (changed at s ctrl op)
says_change at s ctrl op = says_path at s op (find (has_ctrl ctrl) (paths_of s))

says_given : (at : Place) (s : State) (gift : Gift) (o : Option ℕ) → Says s (given_in at s gift o)
says_given at s gift None = record { requests = refl; flights = refl; waiting = refl; said = (tt, tt) }
says_given at s gift (Some slot) =
    elim (cases_Bool (s.order.len == 8)) [
      | inl full ↦ rw full (record { requests = refl; flights = refl; waiting = refl; said = (tt, tt) })
      | inr room ↦ rw room (record { requests = refl; flights = refl; waiting = refl; said = (tt, tt) })
    ]

says_unless : (at : Place) (s : State) (gift : Gift) (o : Option ℕ) → Says s (given_unless at s gift o)
says_unless at s gift (Some slot) = record { requests = refl; flights = refl; waiting = refl; said = (tt, tt) }
says_unless at s gift None = says_given at s gift (free_slot s)

pub says_added : (at : Place) (s : State) (gift : Gift) → Says s (added at s gift)
says_added at s gift = says_unless at s gift (slot_with s gift.ctrl)

says_marked : (at : Place) (s : State) (o : Option Path) → Says s (marked at s o)
says_marked at s None = record { requests = refl; flights = refl; waiting = refl; said = (tt, tt) }
says_marked at s (Some path) = record { requests = refl; flights = refl; waiting = refl; said = (tt, tt) }

pub says_removed : (at : Place) (s : State) (ctrl : ℕ) → Says s (removed at s ctrl)
says_removed at s ctrl = says_marked at s (find (λ path. has_ctrl ctrl path && not (is_among s.removals path.slot)) (paths_of s))

says_unlisted : (at : Place) (s : State) (slots : List ℕ) → Says s (each (unlisted at) s slots)
says_unlisted at s [] = says_nothing s
says_unlisted at s (slot ∷ slots) =
    let first : Stepped = unlisted at s slot in
    says_both s first (each (unlisted at) first.state slots) (record { requests = refl; flights = refl; waiting = refl; said = tt }) (says_unlisted at first.state slots)

says_freed : (at : Place) (oldest : ℕ) (o : Option ℕ) (s : State) → Says s (freed_or_again at oldest o s)
says_freed at oldest None s = record { requests = refl; flights = refl; waiting = refl; said = (tt, tt) }
says_freed at oldest (Some slot) s = record { requests = refl; flights = refl; waiting = refl; said = (tt, tt) }

says_reaped : (at : Place) (s : State) (slots : List ℕ) → Says s (reaped_from at s slots)
says_reaped at s [] = record { requests = refl; flights = refl; waiting = refl; said = (tt, tt) }
says_reaped at s (oldest ∷ others) =
    let gone : List ℕ = filter (is_among (slots_of s.order)) (answers.through_first (is_idle s) (oldest ∷ others)) in
    let first : Stepped = each (unlisted at) s gone in
    says_both s first (freed_or_again at oldest (find (is_idle s) (oldest ∷ others)) first.state) (says_unlisted at s gone) (says_freed at oldest (find (is_idle s) (oldest ∷ others)) first.state)

pub says_reap : (at : Place) (s : State) → Says s (reaped at s)
says_reap at s = says_reaped at s s.removals

-- one call, and no other
pub says_one : (i : Inputs) (at : Place) (s : State) (c : Call) → Says s (call i at s c) → Says s (each (call i at) s (c ∷ []))
says_one i at s c is = says_both s (call i at s c) (each (call i at) (call i at s c).state []) is (says_nothing (call i at s c).state)

-- ---- calls in a row

-- the step leaves what holds, behind any events
abbrev pub Leaves : List Answer → List ℕ → List ℕ → State → Stepped → Type 0
Leaves answers others after s p = (events : List Event) → Holds answers s others events → Holds answers p.state after (events ++ p.events)

pub leaves_joined : (answers : List Answer) (one two three : List ℕ) (s : State) (p n : Stepped) → Leaves answers one two s p → Leaves answers two three p.state n → Leaves answers one three s (joined p n)
leaves_joined answers one two three s p n first next events holds =
    subst (λ (es : List Event). Holds answers n.state three es) (append_assoc events p.events n.events) (next (events ++ p.events) (first events holds))

pub leaves_nothing : (answers : List Answer) (others : List ℕ) (s : State) → Leaves answers others others s (record { state = s; rows = []; orders = []; events = [] })
leaves_nothing answers others s events holds = subst (λ (es : List Event). Holds answers s others es) (sym (append-nil events)) holds

pub leaves_says : (answers : List Answer) (others : List ℕ) (s : State) (p : Stepped) → Says s p → Leaves answers others others s p
leaves_says answers others s p is events holds = holds_says answers s p others events is holds

pub leaves_submits : (i : Inputs) (at : Place) (s : State) (reqs : List ℕ) → at.lane < 17 → Leaves i.answers reqs [] s (each (call i at) s (map submit reqs))
leaves_submits i at s [] lt = leaves_nothing i.answers [] s
leaves_submits i at s (req ∷ reqs) lt =
    let first : Stepped = call i at s (submit req) in
    leaves_joined i.answers (req ∷ reqs) reqs [] s first (each (call i at) first.state (map submit reqs))
    (λ events holds. submit_holds i.answers i.topology.near at.lane s req reqs events lt holds) (leaves_submits i at first.state reqs lt)

-- the flights of a lane after one of them ended
pub left_flights : (answers : List Answer) (lane : ℕ) (s : State) (f : Flight) → (finished answers lane s f).state.flights ≡ set s.flights f.lane (filter (λ g. not (g.req == f.req)) (get_or s.flights f.lane []))
left_flights answers lane s f =
    let tries : List Tried = (request_of s f.req).tries in
    let statuses : List ℕ = hop_statuses answers f.req (attempts_of tries + 1) in
    let back : Option Back = back_of lane s f (length tries) (class_of_hop statuses) in
    back_flights f back (landed f (ended_tries statuses back tries) s)

pub holds_finishes : (i : Inputs) (at : Place) (s : State) (fs : List Flight) (others : List ℕ) (events : List Event) → at.lane < 17 → AreOf at.lane fs → ((r : ℕ) → flown r fs ≤ flown r (flights_of at.lane s)) → Holds i.answers s others events
    → Holds i.answers (each (call i at) s (map finish fs)).state others (events ++ (each (call i at) s (map finish fs)).events)
holds_finishes i at s [] others events lt of within holds = leaves_nothing i.answers others s events holds
holds_finishes i at s (f ∷ fs) others events lt of within holds =
    let first : Stepped = finished i.answers at.lane s f in
    let low : at.lane < length s.flights = omega (arith, lt, holds.seated.lanes) in
    let first_in : 1 ≤ flown f.req (flights_of at.lane s) = omega (arith, first_flies f fs, within f.req) in
    let flies_here : 1 ≤ flown f.req (flights_of f.lane s) = subst (λ l. 1 ≤ flown f.req (flights_of l s)) (sym of.0) first_in in
    let after : Holds i.answers first.state others (events ++ first.events) = finish_holds i.answers at.lane s f others events (subst (λ l. l < 17) (sym of.0) lt) flies_here holds in
    let own : flights_of at.lane first.state ≡ filter (λ g. not (g.req == f.req)) (flights_of at.lane s) =
    ap (λ (fss : List (List Flight)). get_or fss at.lane []) (left_flights i.answers at.lane s f)
    ∙ ap (λ l. get_or (set s.flights l (filter (λ g. not (g.req == f.req)) (get_or s.flights l []))) at.lane []) of.0
    ∙ set_here s.flights at.lane (filter (λ g. not (g.req == f.req)) (get_or s.flights at.lane [])) low in
    let rest = rest_fly s.requests s.flights (s.waiting ++ others) at.lane f fs holds.seated low within in
    let still : (r : ℕ) → flown r fs ≤ flown r (flights_of at.lane first.state) = λ r. subst (λ (gs : List Flight). flown r fs ≤ flown r gs) (sym own) (rest r) in
    subst (λ (es : List Event). Holds i.answers (each (call i at) first.state (map finish fs)).state others es) (append_assoc events first.events (each (call i at) first.state (map finish fs)).events)
    (holds_finishes i at first.state fs others (events ++ first.events) lt of.1 still after)
  where
    set_here : (flights : List (List Flight)) (lane : ℕ) (fs : List Flight) → lane < length flights → get_or (set flights lane fs) lane [] ≡ fs
    set_here flights lane fs low = get_or-set_same flights lane fs [] low

-- all flights of a lane are finished
pub leaves_all : (i : Inputs) (at : Place) (s : State) (others : List ℕ) → at.lane < 17 → Leaves i.answers others others s (each (call i at) s (map finish (flights_of at.lane s)))
leaves_all i at s others lt events holds = holds_finishes i at s (flights_of at.lane s) others events lt (holds.seated.home at.lane) (λ r. omega arith) holds
