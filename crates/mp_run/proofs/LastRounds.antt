-- The rounds of the drain come to an end by themselves: each that sends ends a request that waits, or uses up a status of
-- the script.
use Rattle.std.proofs.Common.{[], ◌≡◌, ℕ, zero, suc, ◌+◌, ◌<◌, ◌≤◌, true, false, not, ◌||◌, ◌==◌, List, ◌∷◌, ◌++◌, inl, inr, map, filter, length, get_or, set, Option, Some, None, refl, sym, ap, ◌∙◌, subst, append-nil, append_assoc, eq-eqb, arith}
use Rattle.std.specs.List.{list_any}
use Rattle.std.proofs.lemmas.Bool.{cases_Bool}
use Rattle.std.proofs.lemmas.List.{length-append, get_or-set_same, length-set}
use Rattle.std.proofs.lemmas.List.Folds.{list_any-append}
use Rattle.mp_checks.specs.Marks.{has}
use Rattle.mp_words.specs.declared.flight.Flight.{Flight}
use Rattle.mp_words.specs.declared.trying.Back.{Back}
use Rattle.mp_words.specs.declared.trying.TryEnd.{TryEnd}
use Rattle.mp_words.specs.declared.trying.TryEnd.TheVariants.{Sent, Listed, Failed}
use Rattle.mp_words.specs.Request.{Asked, Tried, attempts_of}
use Rattle.mp_words.specs.declared.answers.Answer.{Answer}
use Rattle.mp_legal.specs.Answers.{hop_statuses, class_of_hop}
use Rattle.mp_legal.specs.PlainState.{State, request_of, with_tries}
use Rattle.mp_legal.specs.PlainFinish.{ended_tries, back_of, landed, finished}
use Rattle.mp_legal.specs.Numbers.{has_req, asked_at}
use Rattle.mp_run.proofs.Standing.{other_asked, this_asked}
use Rattle.mp_legal.specs.PlainCall.{Inputs, finish, call}
use Rattle.mp_legal.specs.PlainSubmit.{tried, end_of, choice_by}
use Rattle.mp_legal.specs.PlainLine.{flights_of}
use Rattle.mp_legal.specs.Stepped.{Stepped, joined, tells, and_then, each}
use Rattle.mp_legal.specs.Drain.{drain_place, finishes_all, sends_and_finishes, is_sent, round, rounds_from, rounds, most_rounds}
use Rattle.mp_run.specs.LastRound.{last_round}
use Rattle.mp_run.proofs.Changes.{or_true, has_with_tries, has_middle, has_between}
use Rattle.mp_record.specs.declared.event.Event.TheVariants.{Try}
use Rattle.mp_run.proofs.Chosen.{asked_req}
use Rattle.mp_run.specs.LastRound.{CanDrain}
use Rattle.mp_run.proofs.Coming.{is_open, left, left_fewer, attempts-append, grown_stays, listed, back_waiting, back_requests, back_flights, to_come, finish_fewer, Grows}

-- ---- a request that is sent and finished

-- Nothing flies in the lane of the drain, and the requests that wait and these others were submitted.
record Drains (s : State) (others : List ℕ) : Type 0 where
  pub lanes : 16 < length s.flights
  pub idle : flights_of 16 s ≡ []
  pub there : (req : ℕ) → has (s.waiting ++ others) req ≡ true → has_req req s.requests ≡ true

-- A step brings at most so much, and less where it sends something.
record Brings (answers : List Answer) (step : Stepped) (before others : ℕ) (left_over : List ℕ) : Type 0 where
  all : to_come answers step.state ≤ before + others
  sent : list_any is_sent step.events ≡ true → to_come answers step.state + 1 ≤ before + others
  can : Drains step.state left_over

-- a request with one more try whose attempts are to come
open_grows : (s : State) (req : ℕ) (t : Tried) → t.statuses ≡ [] → has_req req s.requests ≡ true → Grows req 0 s.requests (with_tries req ((asked_at req s.requests).tries ++ t ∷ []) s.requests)
open_grows s req t opened there =
    let none : length t.statuses ≡ 0 = ap length opened in
    let own : attempts_of (asked_at req (with_tries req ((asked_at req s.requests).tries ++ t ∷ []) s.requests)).tries ≡ attempts_of (asked_at req s.requests).tries + length t.statuses =
    ap (λ (a : Asked). attempts_of a.tries) (this_asked req ((asked_at req s.requests).tries ++ t ∷ []) s.requests there) ∙ attempts-append (asked_at req s.requests).tries t in
    record {
      own = omega (arith, own, none);
      others = λ r other. other_asked r req ((asked_at req s.requests).tries ++ t ∷ []) s.requests other;
    }

pub open_fewer : (answers : List Answer) (s : State) (req : ℕ) (t : Tried) → t.statuses ≡ [] → has_req req s.requests ≡ true → left answers (with_tries req ((asked_at req s.requests).tries ++ t ∷ []) s.requests) ≤ left answers s.requests
open_fewer answers s req t opened there =
    left_fewer answers s.requests (with_tries req ((asked_at req s.requests).tries ++ t ∷ []) s.requests)
    (grown_stays req 0 s.requests (with_tries req ((asked_at req s.requests).tries ++ t ∷ []) s.requests) (open_grows s req t opened there))

has_swap : (xs ys : List ℕ) (n m : ℕ) → has ((xs ++ n ∷ []) ++ ys) m ≡ true → has (xs ++ n ∷ ys) m ≡ true
has_swap xs ys n m e = ap (λ l. has l m) (sym (append_assoc xs (n ∷ []) ys)) ∙ e

-- what is left once a try ended so, and what flies in the lane of the drain
abbrev drained : Inputs → State → Asked → TryEnd → Stepped
drained i s a end = and_then (tried 16 s a end) (finishes_all i)

nothing_flies : (i : Inputs) (t : State) → flights_of 16 t ≡ [] → finishes_all i t ≡ tells t []
nothing_flies i t idle = ap (λ (fs : List Flight). each (call i drain_place) t (map finish fs)) idle

unsent_brings : (i : Inputs) (s : State) (a : Asked) (end : TryEnd) (others : List ℕ) → a ≡ asked_at a.req s.requests → Drains s (a.req ∷ others) → is_sent (Try a.req (length a.tries + 1) end) ≡ false
    → flights_of 16 (tried 16 s a end).state ≡ flights_of 16 s → length (tried 16 s a end).state.flights ≡ length s.flights
    → length (tried 16 s a end).state.waiting ≤ length s.waiting + 1
    → ((m : ℕ) → has ((tried 16 s a end).state.waiting ++ others) m ≡ true → has (s.waiting ++ a.req ∷ others) m ≡ true)
    → (tried 16 s a end).state.requests ≡ with_tries a.req (a.tries ++ record { end = end; statuses = []; back = None } ∷ []) s.requests
    → Brings i.answers (drained i s a end) (to_come i.answers s) 1 others
unsent_brings i s a end others is can unsent same_flights same_lanes few within requests =
    let one : Stepped = tried 16 s a end in
    let idle : flights_of 16 one.state ≡ [] = same_flights ∙ can.idle in
    let whole : drained i s a end ≡ joined one (tells one.state []) = ap (λ (x : Stepped). joined one x) (nothing_flies i one.state idle) in
    let there : has_req a.req s.requests ≡ true = can.there a.req (has_middle s.waiting others a.req) in
    let were : one.state.requests ≡ with_tries a.req ((asked_at a.req s.requests).tries ++ record { end = end; statuses = []; back = None } ∷ []) s.requests =
    requests ∙ ap (λ (b : Asked). with_tries a.req (b.tries ++ record { end = end; statuses = []; back = None } ∷ []) s.requests) is in
    let fewer : left i.answers one.state.requests ≤ left i.answers s.requests = rw were (open_fewer i.answers s a.req (record { end = end; statuses = []; back = None }) refl there) in
    subst (λ (x : Stepped). Brings i.answers x (to_come i.answers s) 1 others) (sym whole) (record {
      all = omega (arith, few, fewer);
      sent = λ e. let on : (is_sent (Try a.req (length a.tries + 1) end) || false) ≡ true = e in let off = rw unsent at on in absurd cc;
      can = record {
        lanes = omega (arith, same_lanes, can.lanes);
        idle = idle;
        there = λ m e. ap (has_req m) were ∙ has_with_tries m a.req _ s.requests ∙ can.there m (within m e);
      };
    })

listed_within : (s : State) (way : Option Back) (req : ℕ) (others : List ℕ) (m : ℕ) → has ((s.waiting ++ listed way req) ++ others) m ≡ true → has (s.waiting ++ req ∷ others) m ≡ true
listed_within s None req others m e = has_between s.waiting others req m (ap (λ l. has (l ++ others) m) (sym (append-nil s.waiting)) ∙ e)
listed_within s (Some way) req others m e = has_swap s.waiting others req m e

sent_brings : (i : Inputs) (s : State) (a : Asked) (slot version : ℕ) (others : List ℕ) → a ≡ asked_at a.req s.requests → Drains s (a.req ∷ others)
    → Brings i.answers (drained i s a (Sent slot version)) (to_come i.answers s) 1 others
sent_brings i s a slot version others is can =
    let end : TryEnd = Sent slot version in
    let opened : Tried = record { end = end; statuses = []; back = None } in
    let one : Stepped = tried 16 s a end in
    let f : Flight = record { slot = slot; version = version; req = a.req; lane = 16 } in
    let flies : flights_of 16 one.state ≡ f ∷ [] =
    get_or-set_same s.flights 16 (get_or s.flights 16 [] ++ f ∷ []) [] can.lanes ∙ ap (λ (fs : List Flight). fs ++ f ∷ []) can.idle in
    let fin : Stepped = finished i.answers 16 one.state f in
    let whole : drained i s a end ≡ joined one (joined fin (tells fin.state [])) = ap (λ (fs : List Flight). joined one (each (call i drain_place) one.state (map finish fs))) flies in
    let there : has_req a.req s.requests ≡ true = can.there a.req (has_middle s.waiting others a.req) in
    let were : one.state.requests ≡ with_tries a.req ((asked_at a.req s.requests).tries ++ opened ∷ []) s.requests =
    ap (λ (b : Asked). with_tries a.req (b.tries ++ opened ∷ []) s.requests) is in
    let fewer : left i.answers one.state.requests ≤ left i.answers s.requests = rw were (open_fewer i.answers s a.req opened refl there) in
    let now : (asked_at a.req one.state.requests).tries ≡ a.tries ++ opened ∷ [] = ap (λ (b : Asked). b.tries) (this_asked a.req (a.tries ++ opened ∷ []) s.requests there) in
    let there_now : has_req a.req one.state.requests ≡ true = has_with_tries a.req a.req (a.tries ++ opened ∷ []) s.requests ∙ there in
    let less : to_come i.answers fin.state ≤ to_come i.answers one.state = finish_fewer i.answers 16 one.state f a.tries opened now refl there_now in
    let tries : List Tried = (request_of one.state a.req).tries in
    let statuses : List ℕ = hop_statuses i.answers a.req (attempts_of tries + 1) in
    let way : Option Back = back_of 16 one.state f (length tries) (class_of_hop statuses) in
    let new : List Tried = ended_tries statuses way tries in
    let flights : fin.state.flights ≡ set one.state.flights 16 (filter (λ g. not (g.req == a.req)) (get_or one.state.flights 16 [])) = back_flights f way (landed f new one.state) in
    let waiting : fin.state.waiting ≡ s.waiting ++ listed way a.req = back_waiting f way (landed f new one.state) in
    let requests : fin.state.requests ≡ with_tries a.req new one.state.requests = back_requests f way (landed f new one.state) in
    let many : length one.state.flights ≡ length s.flights = length-set s.flights 16 (get_or s.flights 16 [] ++ f ∷ []) in
    let gone : filter (λ (g : Flight). not (g.req == a.req)) (f ∷ []) ≡ [] = rw (eq-eqb a.req a.req refl) refl in
    let idle : flights_of 16 fin.state ≡ [] =
    ap (λ (fs : List (List Flight)). get_or fs 16 []) flights ∙ get_or-set_same one.state.flights 16 (filter (λ g. not (g.req == a.req)) (get_or one.state.flights 16 [])) [] (omega (arith, many, can.lanes))
    ∙ ap (filter (λ (g : Flight). not (g.req == a.req))) flies ∙ gone in
    let lanes : length fin.state.flights ≡ length s.flights = ap length flights ∙ length-set one.state.flights 16 (filter (λ g. not (g.req == a.req)) (get_or one.state.flights 16 [])) ∙ many in
    let there_all : (m : ℕ) → has (fin.state.waiting ++ others) m ≡ true → has_req m fin.state.requests ≡ true =
    λ m e. ap (has_req m) requests ∙ has_with_tries m a.req new one.state.requests ∙ has_with_tries m a.req (a.tries ++ opened ∷ []) s.requests
    ∙ can.there m (listed_within s way a.req others m (ap (λ l. has (l ++ others) m) (sym waiting) ∙ e)) in
    subst (λ (x : Stepped). Brings i.answers x (to_come i.answers s) 1 others) (sym whole) (record {
      all = omega (arith, less, fewer);
      sent = λ e. omega (arith, less, fewer);
      can = record { lanes = omega (arith, lanes, can.lanes); idle = idle; there = there_all };
    })

try_brings : (i : Inputs) (s : State) (a : Asked) (end : TryEnd) (others : List ℕ) → a ≡ asked_at a.req s.requests → Drains s (a.req ∷ others) → Brings i.answers (drained i s a end) (to_come i.answers s) 1 others
try_brings i s a (Sent slot version) others is can = sent_brings i s a slot version others is can
try_brings i s a Listed others is can =
    unsent_brings i s a Listed others is can refl refl refl (omega (arith, length-append s.waiting (a.req ∷ []))) (λ m e. has_swap s.waiting others a.req m e) refl
try_brings i s a Failed others is can =
    unsent_brings i s a Failed others is can refl refl refl (omega arith) (λ m e. has_between s.waiting others a.req m e) refl

sends_bring : (i : Inputs) (s : State) (req : ℕ) (others : List ℕ) → Drains s (req ∷ others) → Brings i.answers (sends_and_finishes i s req) (to_come i.answers s) 1 others
sends_bring i s req others can =
    let a : Asked = asked_at req s.requests in
    let number : a.req ≡ req = asked_req req s.requests in
    let end : TryEnd = end_of s (choice_by s.order.policy i.topology.near s a.node) in
    try_brings i s a end others (ap (λ n. asked_at n s.requests) (sym number)) (subst (λ n. Drains s (n ∷ others)) (sym number) can)

each_brings : (i : Inputs) (s : State) (requests : List ℕ) → Drains s requests → Brings i.answers (each (sends_and_finishes i) s requests) (to_come i.answers s) (length requests) []
each_brings i s [] can = record { all = omega arith; sent = λ e. absurd cc; can = can }
each_brings i s (req ∷ requests) can =
    let first : Stepped = sends_and_finishes i s req in
    let rest : Stepped = each (sends_and_finishes i) first.state requests in
    let one : Brings i.answers first (to_come i.answers s) 1 requests = sends_bring i s req requests can in
    let others : Brings i.answers rest (to_come i.answers first.state) (length requests) [] = each_brings i first.state requests one.can in
    record {
      all = omega (arith, one.all, others.all);
      sent = λ e. elim (or_true (list_any is_sent first.events) (list_any is_sent rest.events) (sym (list_any-append is_sent first.events rest.events) ∙ e)) [
        | inl a ↦ omega (arith, one.sent a, others.all)
        | inr b ↦ omega (arith, one.all, others.sent b)
      ];
      can = others.can;
    }

round_brings : (i : Inputs) (s : State) → Drains s [] → Brings i.answers (round i s) (left i.answers s.requests) (length s.waiting) []
round_brings i s can =
    let empty : State = record s { waiting = [] } in
    let taken : Drains empty s.waiting = record { lanes = can.lanes; idle = can.idle; there = λ m e. can.there m (ap (λ l. has l m) (append-nil s.waiting) ∙ e) } in
    let all : Brings i.answers (each (sends_and_finishes i) empty s.waiting) (to_come i.answers empty) (length s.waiting) [] = each_brings i empty s.waiting taken in
    record { all = omega (arith, all.all); sent = λ e. omega (arith, all.sent e); can = all.can }

pub left_few : (answers : List Answer) (requests : List Asked) → left answers requests ≤ length answers
left_few [] requests = omega arith
left_few (a ∷ answers) requests =
    let more = left_few answers requests in
    elim (cases_Bool (is_open requests a)) [ inl on ↦ rw on (omega arith) | inr off ↦ rw off (omega arith) ]

ends_by : (i : Inputs) (n : ℕ) (s : State) → Drains s [] → to_come i.answers s ≤ n → list_any is_sent (last_round i n (round i s)).events ≡ false
ends_by i zero s can few =
    let brings = round_brings i s can in
    elim (cases_Bool (list_any is_sent (round i s).events)) [
      | inl on ↦ absurd (omega (arith, brings.sent on))
      | inr off ↦ off
    ]
ends_by i (suc n) s can few =
    let brings = round_brings i s can in
    elim (cases_Bool (list_any is_sent (round i s).events)) [
      | inl on ↦ rw on (ends_by i n (round i s).state brings.can (omega (arith, brings.sent on)))
      | inr off ↦ rw off off
    ]

same_by : (i : Inputs) (n more : ℕ) (s : State) → Drains s [] → to_come i.answers s ≤ n → rounds_from i (n + more) (round i s) ≡ rounds_from i n (round i s)
same_by i zero zero s can few = refl
same_by i zero (suc more) s can few =
    let brings = round_brings i s can in
    let e : zero + suc more ≡ suc more = omega arith in
    rw e (elim (cases_Bool (list_any is_sent (round i s).events)) [
      | inl on ↦ absurd (omega (arith, brings.sent on))
      | inr off ↦ rw off refl
    ])
same_by i (suc n) more s can few =
    let brings = round_brings i s can in
    let e : suc n + more ≡ suc (n + more) = omega arith in
    rw e (elim (cases_Bool (list_any is_sent (round i s).events)) [
      | inl on ↦ rw on (ap (λ (x : Stepped). joined (round i s) x) (same_by i n more (round i s).state brings.can (omega (arith, brings.sent on))))
      | inr off ↦ rw off refl
    ])

drains : (s : State) → CanDrain s → Drains s []
drains s can = record { lanes = can.lanes; idle = can.idle; there = λ m e. can.there m (ap (λ l. has l m) (sym (append-nil s.waiting)) ∙ e) }

pub last_unsent : (i : Inputs) (s : State) → CanDrain s → list_any is_sent (last_round i (most_rounds i s) (round i s)).events ≡ false
last_unsent i s can = ends_by i (most_rounds i s) s (drains s can) (omega (arith, left_few i.answers s.requests))

pub enough_rounds : (i : Inputs) (s : State) (more : ℕ) → CanDrain s → rounds_from i (most_rounds i s + more) (round i s) ≡ rounds i s
enough_rounds i s more can = same_by i (most_rounds i s) more s (drains s can) (omega (arith, left_few i.answers s.requests))
