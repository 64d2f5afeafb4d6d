-- What calls leave of flights and of requests.
use Rattle.std.proofs.Common.{[], ◌≡◌, ◌≢◌, ℕ, ◌+◌, ◌<◌, Bool, true, false, not, ◌==◌, ◌&&◌, subst, cond, List, ◌∷◌, ◌++◌, inl, inr, map, filter, find, length, get_or, set, Option, Some, None, refl, sym, ap, ◌∙◌, arith}
use Rattle.std.specs.List.{last_or, enumerate_from, range_with_len}
use Rattle.std.proofs.lemmas.Bool.{cases_Bool, eqb-true}
use Rattle.std.proofs.lemmas.List.{get_or-set_same, get_or-set_other, length-set}
use Rattle.mp_words.specs.declared.near.Near.{Near}
use Rattle.mp_words.specs.declared.answers.Answer.{Answer}
use Rattle.mp_words.specs.declared.flight.Flight.{Flight}
use Rattle.mp_words.specs.declared.path.Path.{Path}
use Rattle.mp_words.specs.declared.op.Op.{Op}
use Rattle.mp_words.specs.declared.op.Gift.{Gift}
use Rattle.mp_words.specs.declared.op.Effect.{Effect}
use Rattle.mp_words.specs.declared.op.Effect.TheVariants as effect
use Rattle.mp_words.specs.declared.trying.Back.{Back}
use Rattle.mp_words.specs.declared.trying.Back.TheVariants.{Set, Unset}
use Rattle.mp_words.specs.declared.trying.TryEnd.{TryEnd}
use Rattle.mp_words.specs.declared.trying.TryEnd.TheVariants.{Sent, Listed, Failed}
use Rattle.mp_words.specs.declared.trying.Outcome.TheVariants as outcome
use Rattle.mp_words.specs.Answers.{answer_for}
use Rattle.mp_words.specs.Request.{Asked, Tried, attempts_of, outcome_of, outcome_after, map_last}
use Rattle.mp_status.specs.Hop.{through_first, ends_hop}
use Rattle.mp_words.specs.Effect.{effect_of}
use Rattle.mp_words.specs.PathTable.{has_ctrl}
use Rattle.mp_words.specs.Order.{slots_of}
use Rattle.mp_legal.specs.Answers.{hop_statuses, class_of_hop}
use Rattle.mp_legal.specs.PlainState.{State, request_of, with_tries, paths_of}
use Rattle.mp_legal.specs.PlainCall.{Inputs, Call, submit, finish, change, add, remove, set_policy, reap, call}
use Rattle.mp_legal.specs.PlainChange.{changed_by, changed_path}
use Rattle.mp_legal.specs.PlainFinish.{finished, ended_try, ended_tries, landed, after_back, back_of}
use Rattle.mp_legal.specs.PlainKeep.{slot_with, free_slot, given_in, given_unless, marked, is_among, unlisted, freed_or_again, reaped_from, reaped, is_idle}
use Rattle.mp_legal.specs.PlainSubmit.{submitted, tried, end_of, choice_by}
use Rattle.mp_legal.specs.PlainLine.{flights_of}
use Rattle.mp_legal.specs.Stepped.{Place, each}
use Rattle.mp_legal.specs.Answers as answers
use Rattle.mp_legal.specs.Numbers.{has_req, has_flight, standing, asked_at}
use Rattle.mp_run.specs.Sound.{AreOf, AreAloft}
use Rattle.mp_run.proofs.Standing.{this_asked, sent_there}
use Rattle.mp_run.proofs.Changes.{each_lane, has_with_tries, of-append, of-filter, stands_other, stands_tried, before_more, still_there, flight-last}
use Rattle.mp_run.proofs.OnTurns.{numbers, numbers-tries}

-- each lane's flights are of the lane
abbrev pub AreHome : State → Type 0
AreHome s = (lane : ℕ) → AreOf lane (flights_of lane s)

-- What a call of a lane leaves: the numbers, the number of lanes, that each request that was sent flies, that flights
-- are of their lanes, and the flights of other lanes.
pub record Keeps (lane : ℕ) (s t : State) : Type 0 where
  pub numbers : numbers t.requests ≡ numbers s.requests
  pub lanes : length t.flights ≡ length s.flights
  pub aloft : lane < length s.flights → AreAloft s → AreAloft t
  pub home : AreHome s → AreHome t
  pub other : (l : ℕ) → l ≢ lane → flights_of l t ≡ flights_of l s

pub keeps_both : (lane : ℕ) (s t u : State) → Keeps lane s t → Keeps lane t u → Keeps lane s u
keeps_both lane s t u one two = record {
  numbers = two.numbers ∙ one.numbers;
  lanes = two.lanes ∙ one.lanes;
  aloft = λ lt aloft. two.aloft (omega (arith, lt, one.lanes)) (one.aloft lt aloft);
  home = λ home. two.home (one.home home);
  other = λ l apart. two.other l apart ∙ one.other l apart;
}

-- ---- steps that touch no flight and no request

-- the flights and the requests stay
pub record Stays (s t : State) : Type 0 where
  pub flights : t.flights ≡ s.flights
  pub requests : t.requests ≡ s.requests

stays_same : (s t : State) → t.flights ≡ s.flights → t.requests ≡ s.requests → Stays s t
stays_same s t p q = record { flights = p; requests = q }

stays_both : (s t u : State) → Stays s t → Stays t u → Stays s u
stays_both s t u one two = record { flights = two.flights ∙ one.flights; requests = two.requests ∙ one.requests }

-- the flights, the requests and those that wait stay
pub record StaysListed (s t : State) : Type 0 where
  pub stays : Stays s t
  pub waiting : t.waiting ≡ s.waiting

listed_same : (s t : State) → t.flights ≡ s.flights → t.requests ≡ s.requests → t.waiting ≡ s.waiting → StaysListed s t
listed_same s t p q w = record { stays = stays_same s t p q; waiting = w }

listed_both : (s t u : State) → StaysListed s t → StaysListed t u → StaysListed s u
listed_both s t u one two = record { stays = stays_both s t u one.stays two.stays; waiting = two.waiting ∙ one.waiting }

aloft_stays : (s t : State) → Stays s t → AreAloft s → AreAloft t
aloft_stays s t stays aloft req sent =
    let it = aloft req (ap (standing req) (sym stays.requests) ∙ sent) in
    (it.0, ap (λ (fs : List (List Flight)). has_flight req (get_or fs it.0 [])) stays.flights ∙ it.1)

pub keeps_stays : (lane : ℕ) (s t : State) → Stays s t → Keeps lane s t
keeps_stays lane s t stays = record {
  numbers = ap numbers stays.requests;
  lanes = ap length stays.flights;
  aloft = λ lt aloft. aloft_stays s t stays aloft;
  home = λ home l. rw stays.flights (home l);
  other = λ l apart. ap (λ (fs : List (List Flight)). get_or fs l []) stays.flights;
}

stays_changed : (at : Place) (s : State) (path : Path) (op : Op) (e : Effect) → Stays s (changed_by at s path op e).state
stays_changed at s path op (effect.Changed row) = stays_same s _ refl refl
stays_changed at s path op (effect.Refused cstate) = stays_same s _ refl refl
stays_changed at s path op effect.NotArmed = stays_same s _ refl refl

stays_change : (at : Place) (s : State) (op : Op) (o : Option Path) → Stays s (changed_path at s op o).state
stays_change at s op None = stays_same s _ refl refl
stays_change at s op (Some path) = stays_changed at s path op (effect_of path.row op)

stays_given : (at : Place) (s : State) (gift : Gift) (o : Option ℕ) → StaysListed s (given_in at s gift o).state
stays_given at s gift None = listed_same s _ refl refl refl
stays_given at s gift (Some slot) =
    elim (cases_Bool (s.order.len == 8)) [
      | inl full ↦ rw full (listed_same s s refl refl refl)
      | inr room ↦ rw room (listed_same s _ refl refl refl)
    ]

pub stays_added : (at : Place) (s : State) (gift : Gift) (o : Option ℕ) → StaysListed s (given_unless at s gift o).state
stays_added at s gift (Some slot) = listed_same s _ refl refl refl
stays_added at s gift None = stays_given at s gift (free_slot s)

pub stays_marked : (at : Place) (s : State) (o : Option Path) → StaysListed s (marked at s o).state
stays_marked at s None = listed_same s _ refl refl refl
stays_marked at s (Some path) = listed_same s _ refl refl refl

stays_unlisted : (at : Place) (s : State) (slots : List ℕ) → StaysListed s (each (unlisted at) s slots).state
stays_unlisted at s [] = listed_same s _ refl refl refl
stays_unlisted at s (slot ∷ slots) =
    let t : State = (unlisted at s slot).state in
    listed_both s t (each (unlisted at) t slots).state (listed_same s t refl refl refl) (stays_unlisted at t slots)

stays_freed : (at : Place) (oldest : ℕ) (o : Option ℕ) (s : State) → StaysListed s (freed_or_again at oldest o s).state
stays_freed at oldest None s = listed_same s _ refl refl refl
stays_freed at oldest (Some slot) s = listed_same s _ refl refl refl

stays_reaped : (at : Place) (s : State) (slots : List ℕ) → StaysListed s (reaped_from at s slots).state
stays_reaped at s [] = listed_same s _ refl refl refl
stays_reaped at s (oldest ∷ others) =
    let gone : List ℕ = filter (is_among (slots_of s.order)) (answers.through_first (is_idle s) (oldest ∷ others)) in
    let t : State = (each (unlisted at) s gone).state in
    listed_both s t (freed_or_again at oldest (find (is_idle s) (oldest ∷ others)) t).state (stays_unlisted at s gone) (stays_freed at oldest (find (is_idle s) (oldest ∷ others)) t)

pub stays_reap : (at : Place) (s : State) → StaysListed s (reaped at s).state
stays_reap at s = stays_reaped at s s.removals

-- ---- a try

-- a request that isn't sent by a try stands no longer given sent
unsent : (req : ℕ) (before : List Tried) (t : Tried) (requests : List Asked) → before ≡ (asked_at req requests).tries → (outcome_of (Some t) ≡ outcome.Sent → ⊥)
    → standing req (with_tries req (before ++ t ∷ []) requests) ≡ outcome.Sent → ⊥
unsent req before t requests was never e =
    let there : has_req req requests ≡ true = sym (has_with_tries req req (before ++ t ∷ []) requests) ∙ sent_there req (with_tries req (before ++ t ∷ []) requests) e in
    never (sym (ap (λ (ts : List Tried). standing req (with_tries req (ts ++ t ∷ []) requests)) was ∙ stands_tried req t requests there) ∙ e)

aloft_unsent : (s : State) (req : ℕ) (before : List Tried) (t : Tried) → before ≡ (asked_at req s.requests).tries → (outcome_of (Some t) ≡ outcome.Sent → ⊥) → AreAloft s
    → (r : ℕ) → standing r (with_tries req (before ++ t ∷ []) s.requests) ≡ outcome.Sent → (lane : ℕ) × (has_flight r (flights_of lane s) ≡ true)
aloft_unsent s req before t was never aloft r e =
    elim (cases_Bool (r == req)) [
      | inl same ↦ let here : r ≡ req = eqb-true r req same in absurd (unsent req before t s.requests was never (ap (λ n. standing n (with_tries req (before ++ t ∷ []) s.requests)) (sym here) ∙ e))
      | inr other ↦ aloft r (sym (stands_other r req (before ++ t ∷ []) s.requests other) ∙ e)
    ]

keeps_tried : (lane : ℕ) (s : State) (a : Asked) (end : TryEnd) → a.tries ≡ (asked_at a.req s.requests).tries → Keeps lane s (tried lane s a end).state
keeps_tried lane s a Listed was = record {
  numbers = numbers-tries a.req _ s.requests;
  lanes = refl;
  aloft = λ lt aloft. aloft_unsent s a.req a.tries (record { end = Listed; statuses = []; back = None }) was (λ e. absurd cc) aloft;
  home = λ home. home;
  other = λ l apart. refl;
}
keeps_tried lane s a Failed was = record {
  numbers = numbers-tries a.req _ s.requests;
  lanes = refl;
  aloft = λ lt aloft. aloft_unsent s a.req a.tries (record { end = Failed; statuses = []; back = None }) was (λ e. absurd cc) aloft;
  home = λ home. home;
  other = λ l apart. refl;
}
keeps_tried lane s a (Sent slot version) was =
    let f : Flight = record { slot = slot; version = version; req = a.req; lane = lane } in
    let more : List Flight = get_or s.flights lane [] ++ f ∷ [] in
    let tries : List Tried = a.tries ++ record { end = Sent slot version; statuses = []; back = None } ∷ [] in
    record {
      numbers = numbers-tries a.req tries s.requests;
      lanes = length-set s.flights lane more;
      aloft = λ lt aloft r e. elim (cases_Bool (r == a.req)) [
        | inl same ↦ let here : r ≡ a.req = eqb-true r a.req same in (
          lane,
          ap (λ n. has_flight n (get_or (set s.flights lane more) lane [])) here ∙ ap (has_flight a.req) (get_or-set_same s.flights lane more [] lt) ∙ flight-last (get_or s.flights lane []) f,
        )
        | inr other ↦ let it = aloft r (sym (stands_other r a.req tries s.requests other) ∙ e) in (it.0, before_more s lane it.0 r f it.1)
      ];
      home = λ home. each_lane AreOf s.flights lane more home (of-append lane (get_or s.flights lane []) f (home lane) refl);
      other = λ l apart. get_or-set_other s.flights lane l more [] apart;
    }

asked_number : (req : ℕ) (requests : List Asked) → (asked_at req requests).req ≡ req
asked_number req [] = refl
asked_number req (a ∷ requests) =
    elim (cases_Bool (a.req == req)) [
      | inl on ↦ rw on (eqb-true a.req req on)
      | inr off ↦ rw off (asked_number req requests)
    ]

keeps_submitted : (near : Near) (lane : ℕ) (s : State) (req : ℕ) → Keeps lane s (submitted near lane s req).state
keeps_submitted near lane s req =
    let a : Asked = request_of s req in
    keeps_tried lane s a (end_of s (choice_by s.order.policy near s a.node)) (ap (λ n. (asked_at n s.requests).tries) (sym (asked_number req s.requests)))

-- ---- the end of a flight

-- the statuses of a hop are one at least
last_some : (n : ℕ) (ns : List ℕ) → (last : ℕ) × (last_or (Some n) ns ≡ Some last)
last_some n [] = (n, refl)
last_some n (m ∷ ns) = last_some m ns

hop_some : (given : List Answer) (req attempt : ℕ) → (last : ℕ) × (last_or None (hop_statuses given req attempt) ≡ Some last)
hop_some given req attempt = first_some (map (answer_for given req) (range_with_len attempt 6)) (answer_for given req attempt) (map (answer_for given req) (range_with_len (attempt + 1) 5)) refl
  where
    first_some : (all : List ℕ) (n : ℕ) (ns : List ℕ) → all ≡ n ∷ ns → (last : ℕ) × (last_or None (map (λ retried. retried.1) (through_first ends_hop (enumerate_from 0 all))) ≡ Some last)
    first_some all n ns is = rw is (by_first (ends_hop (0, n)) n (through_first ends_hop (enumerate_from (0 + 1) ns)))
      where
        by_first : (b : Bool) (n : ℕ) (more : List (ℕ × ℕ)) → (last : ℕ) × (last_or None (map (λ retried. retried.1) (cond b ((0, n) ∷ []) ((0, n) ∷ more))) ≡ Some last)
        by_first true n more = (n, refl)
        by_first false n more = last_some n (map (λ retried. retried.1) more)

-- a request whose flight ended is sent no longer
ended_outcome : (end : TryEnd) (t : Tried) (statuses : List ℕ) (last : ℕ) (back : Option Back) → last_or None statuses ≡ Some last → outcome_after end (ended_try statuses back t) ≡ outcome.Sent → ⊥
ended_outcome Listed t statuses last back some e = absurd cc
ended_outcome Failed t statuses last back some e = absurd cc
ended_outcome (Sent slot version) t statuses last (Some b) some e = absurd cc
ended_outcome (Sent slot version) t statuses last None some e = let e2 = rw some at e in absurd cc

ended_unsent : (tries : List Tried) (statuses : List ℕ) (last : ℕ) (back : Option Back) → last_or None statuses ≡ Some last → outcome_of (last_or None (ended_tries statuses back tries)) ≡ outcome.Sent → ⊥
ended_unsent [] statuses last back some e = absurd cc
ended_unsent (t ∷ tries) statuses last back some e = by_rest t tries e
  where
    last_first : (t u : Tried) (ts : List Tried) → outcome_of (last_or (Some t) (map_last (ended_try statuses back) (u ∷ ts))) ≡ outcome_of (last_or None (map_last (ended_try statuses back) (u ∷ ts)))
    last_first t u [] = refl
    last_first t u (v ∷ ts) = refl

    by_rest : (t : Tried) (ts : List Tried) → outcome_of (last_or None (map_last (ended_try statuses back) (t ∷ ts))) ≡ outcome.Sent → ⊥
    by_rest t [] e = ended_outcome t.end t statuses last back some e
    by_rest t (u ∷ ts) e = by_rest u ts (sym (last_first t u ts) ∙ e)

aloft_landed : (s : State) (f : Flight) (tries : List Tried) → (outcome_of (last_or None tries) ≡ outcome.Sent → ⊥) → AreAloft s → AreAloft (landed f tries s)
aloft_landed s f tries never aloft r e =
    elim (cases_Bool (r == f.req)) [
      | inl same ↦ let here : r ≡ f.req = eqb-true r f.req same in
          let now : standing f.req (with_tries f.req tries s.requests) ≡ outcome.Sent = ap (λ n. standing n (with_tries f.req tries s.requests)) (sym here) ∙ e in
          let there : has_req f.req s.requests ≡ true = sym (has_with_tries f.req f.req tries s.requests) ∙ sent_there f.req (with_tries f.req tries s.requests) now in
          absurd (never (sym (ap (λ (a : Asked). outcome_of (last_or None a.tries)) (this_asked f.req tries s.requests there)) ∙ now))
      | inr other ↦ let it = aloft r (sym (stands_other r f.req tries s.requests other) ∙ e) in (it.0, still_there s f.lane f.req it.0 r it.1 other)
    ]

keeps_landed : (s : State) (f : Flight) (tries : List Tried) → (outcome_of (last_or None tries) ≡ outcome.Sent → ⊥) → Keeps f.lane s (landed f tries s)
keeps_landed s f tries never =
    let others : List Flight = filter (λ g. not (g.req == f.req)) (get_or s.flights f.lane []) in
    record {
      numbers = numbers-tries f.req tries s.requests;
      lanes = length-set s.flights f.lane others;
      aloft = λ lt. aloft_landed s f tries never;
      home = λ home. each_lane AreOf s.flights f.lane others home (of-filter f.lane (λ g. not (g.req == f.req)) (get_or s.flights f.lane []) (home f.lane));
      other = λ l apart. get_or-set_other s.flights f.lane l others [] apart;
    }

stays_back : (f : Flight) (back : Option Back) (s : State) → Stays s (after_back f back s)
stays_back f None s = stays_same s _ refl refl
stays_back f (Some Unset) s = stays_same s _ refl refl
stays_back f (Some (Set entry)) s = stays_same s _ refl refl

-- the state in which a flight has landed, and how it came back
abbrev landing : List Answer → ℕ → State → Flight → State
landing given lane s f =
    let tries = (request_of s f.req).tries in
    let statuses = hop_statuses given f.req (attempts_of tries + 1) in
    landed f (ended_tries statuses (back_of lane s f (length tries) (class_of_hop statuses)) tries) s

stays_finished : (given : List Answer) (lane : ℕ) (s : State) (f : Flight) → Stays (landing given lane s f) (finished given lane s f).state
stays_finished given lane s f =
    let tries = (request_of s f.req).tries in
    let statuses = hop_statuses given f.req (attempts_of tries + 1) in
    stays_back f (back_of lane s f (length tries) (class_of_hop statuses)) (landing given lane s f)

keeps_finished : (given : List Answer) (lane : ℕ) (s : State) (f : Flight) → Keeps f.lane s (finished given lane s f).state
keeps_finished given lane s f =
    let tries = (request_of s f.req).tries in
    let statuses = hop_statuses given f.req (attempts_of tries + 1) in
    let some = hop_some given f.req (attempts_of tries + 1) in
    keeps_both f.lane s (landing given lane s f) (finished given lane s f).state
    (keeps_landed s f (ended_tries statuses (back_of lane s f (length tries) (class_of_hop statuses)) tries) (ended_unsent tries statuses some.0 (back_of lane s f (length tries) (class_of_hop statuses)) some.1))
    (keeps_stays f.lane (landing given lane s f) (finished given lane s f).state (stays_finished given lane s f))

-- the flights of a lane after one of its flights ended
pub gone_finished : (given : List Answer) (lane at : ℕ) (s : State) (f : Flight) → f.lane ≡ at → at < length s.flights
    → flights_of at (finished given lane s f).state ≡ filter (λ g. not (g.req == f.req)) (flights_of at s)
gone_finished given lane at s f is lt =
    let others : ℕ → List Flight = λ l. filter (λ g. not (g.req == f.req)) (get_or s.flights l []) in
    ap (λ (fs : List (List Flight)). get_or fs at []) (stays_finished given lane s f).flights
    ∙ ap (λ l. get_or (set s.flights l (others l)) at []) is ∙ get_or-set_same s.flights at (others at) [] lt

-- ---- each call

-- a call that ends a flight ends one of this lane
abbrev pub IsCallOf : ℕ → Call → Type 0
IsCallOf lane (finish f) = f.lane ≡ lane
IsCallOf lane _ = Unit {0}

pub keeps_call : (i : Inputs) (at : Place) (s : State) (c : Call) → IsCallOf at.lane c → Keeps at.lane s (call i at s c).state
keeps_call i at s (submit req) of = keeps_submitted i.topology.near at.lane s req
keeps_call i at s (finish f) of = subst (λ lane. Keeps lane s (finished i.answers at.lane s f).state) of (keeps_finished i.answers at.lane s f)
keeps_call i at s (change ctrl op) of = keeps_stays at.lane s _ (stays_change at s op (find (has_ctrl ctrl) (paths_of s)))
keeps_call i at s (add gift) of = keeps_stays at.lane s _ (stays_added at s gift (slot_with s gift.ctrl)).stays
keeps_call i at s (remove ctrl) of = keeps_stays at.lane s _ (stays_marked at s (find (λ path. has_ctrl ctrl path && not (is_among s.removals path.slot)) (paths_of s))).stays
keeps_call i at s (set_policy policy) of = keeps_stays at.lane s _ (stays_same s _ refl refl)
keeps_call i at s reap of = keeps_stays at.lane s _ (stays_reap at s).stays

-- a call never changes the numbers
pub numbers-call : (i : Inputs) (at : Place) (s : State) (c : Call) → numbers (call i at s c).state.requests ≡ numbers s.requests
numbers-call i at s (submit req) = (keeps_submitted i.topology.near at.lane s req).numbers
numbers-call i at s (finish f) = (keeps_finished i.answers at.lane s f).numbers
numbers-call i at s (change ctrl op) = (keeps_call i at s (change ctrl op) tt).numbers
numbers-call i at s (add gift) = (keeps_call i at s (add gift) tt).numbers
numbers-call i at s (remove ctrl) = (keeps_call i at s (remove ctrl) tt).numbers
numbers-call i at s (set_policy policy) = refl
numbers-call i at s reap = (keeps_call i at s reap tt).numbers

-- each of these calls is of the lane
abbrev pub AreCallsOf : ℕ → List Call → Type 0
AreCallsOf lane [] = Unit {0}
AreCallsOf lane (c ∷ cs) = IsCallOf lane c × AreCallsOf lane cs

pub keeps_each : (i : Inputs) (at : Place) (s : State) (cs : List Call) → AreCallsOf at.lane cs → Keeps at.lane s (each (call i at) s cs).state
keeps_each i at s [] of = keeps_stays at.lane s s (stays_same s s refl refl)
keeps_each i at s (c ∷ cs) of =
    let t : State = (call i at s c).state in
    keeps_both at.lane s t (each (call i at) t cs).state (keeps_call i at s c of.0) (keeps_each i at t cs of.1)

pub calls_of : (lane : ℕ) (fs : List Flight) → AreOf lane fs → AreCallsOf lane (map finish fs)
calls_of lane [] of = tt
calls_of lane (f ∷ fs) of = (of.0, calls_of lane fs of.1)

pub calls_submit : (lane : ℕ) (reqs : List ℕ) → AreCallsOf lane (map submit reqs)
calls_submit lane [] = tt
calls_submit lane (req ∷ reqs) = (tt, calls_submit lane reqs)
