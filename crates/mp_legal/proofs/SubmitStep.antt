-- A submit is the plain run's.
use Rattle.std.proofs.Common.{◌≡◌, ℕ, ◌+◌, ◌<◌, Bool, true, false, List, [], ◌∷◌, ◌++◌, length, map, get_or, set, Option, Some, None, option_map, refl, sym, ap, ◌∙◌, subst, if◌then◌else◌, get_or-set_same, arith}
use Rattle.std.proofs.lemmas.List.{length-map, length-set, map-append, append-nil}
use Rattle.mp_words.specs.declared.near.Near.{Near}
use Rattle.mp_words.specs.declared.flight.Flight.{Flight}
use Rattle.mp_words.specs.declared.row.Policy.{Policy}
use Rattle.mp_words.specs.declared.row.Policy.TheVariants.{Numa, RoundRobin, QueueDepth}
use Rattle.mp_words.specs.declared.note.Note.{Note}
use Rattle.mp_words.specs.declared.path.Path.{Path}
use Rattle.mp_words.specs.declared.trying.Try.{Try}
use Rattle.mp_words.specs.declared.trying.TryEnd.{TryEnd}
use Rattle.mp_words.specs.declared.trying.TryEnd.TheVariants.{Sent, Listed, Failed}
use Rattle.mp_words.specs.Request.{Asked, tried_of, asked_of}
use Rattle.mp_words.specs.RequestView.{RequestView}
use Rattle.mp_record.specs.declared.event.Event.TheVariants as event
use Rattle.mp_core.specs.declared.view.Seen.{Seen}
use Rattle.mp_core.specs.Core.{Core}
use Rattle.mp_core.specs.Memory.{Memory, depth_at, entered_in, left_in, sent_in}
use Rattle.mp_core.specs.Reads.{with_section}
use Rattle.mp_submit.specs.declared.submit.Submitted.{Submitted}
use Rattle.mp_submit.specs.Choice.{choice_by as choice_on, has_available, end_with, told_choice, paths_at, keeps_choice}
use Rattle.mp_submit.specs.Submits.{Submits, open_try, flights_of, with_flights, kept_in, chosen_in, submitted_in}
use Rattle.mp_legal.specs.PlainState.{request_of, with_tries, depth_of, reads_of}
use Rattle.mp_legal.specs.PlainSubmit.{submitted, tried, lasts_with, end_of, choice_by}
use Rattle.mp_legal.specs.Stepped.{Stepped}
use Rattle.mp_legal.specs.ToldCalls.{IsStep, with_try, try_event}
use Rattle.mp_legal.specs.ToldState.{Beside, IsAt, state_in, lasts_by}
use Rattle.mp_legal.specs.TryRead.{read_of}
use Rattle.mp_legal.proofs.Sending.{greater}

-- the current words after a slot became the node's current path, where it is to
abbrev kept_currents : Bool → ℕ → ℕ → List (Option ℕ) → List (Option ℕ)
kept_currents true node slot currents = set currents node (Some slot)
kept_currents false node slot currents = currents

kept_words : (keeps : Bool) (node slot : ℕ) (m : Memory) → kept_in keeps node slot m ≡ record m { currents = kept_currents keeps node slot m.currents }
kept_words true node slot m = refl
kept_words false node slot m = refl

kept_length : (keeps : Bool) (node slot : ℕ) (currents : List (Option ℕ)) → length (kept_currents keeps node slot currents) ≡ length currents
kept_length true node slot currents = length-set currents node (Some slot)
kept_length false node slot currents = refl

lasts_kept : (p : Policy) (node slot : ℕ) (currents : List (Option ℕ)) → lasts_with p node slot (lasts_by p currents) ≡ lasts_by p (kept_currents (keeps_choice p) node slot currents)
lasts_kept Numa node slot currents = refl
lasts_kept RoundRobin node slot currents = refl
lasts_kept QueueDepth node slot currents = refl

-- the words after a submit that sent to a slot
abbrev sent_words : ℕ → ℕ → Memory → Memory
sent_words node slot m = left_in m.index (sent_in slot (record (entered_in m.index m) { currents = kept_currents (keeps_choice m.order.policy) node slot m.currents }))

-- what is known of a try that ended so
record Tries (a : Core) (m : Memory) (x : Beside) (before after : RequestView) (n : Note) (ending : TryEnd) : Type 0 where
  id : after.id ≡ before.id
  tries_are : (asked_of after).tries ≡ (asked_of before).tries ++ record { end = ending; statuses = []; back = None } ∷ []
  reads_are : read_of n ≡ reads_of a.lane (state_in m x)

-- what a pass knows after a submit that ended so
abbrev after_submit : ℕ → Note → Seen → TryEnd → Option Memory → Core → Core
after_submit req n seen ending words a = record a { view = with_flights (flights_of a.lane req ending) (with_section n seen a.view); told = words }

-- what the law says, over how the try ended
abbrev TryStep : Core → Memory → Beside → RequestView → RequestView → Note → TryEnd → Core → Type 0
TryStep a m x before after n ending c =
    IsStep (tried a.lane (state_in m x) (asked_of before) ending) 1 a c (with_try a.lane after (open_try (length before.tries + 1) ending n) x) [] (try_event after (open_try (length before.tries + 1) ending n) ∷ [])

sent_step : (a : Core) (m : Memory) (x : Beside) (before after : RequestView) (n : Note) (seen : Seen) (slot version : ℕ) → IsAt a m x → Tries a m x before after n (Sent slot version) → slot < 15
    → TryStep a m x before after n (Sent slot version) (after_submit before.id n seen (Sent slot version) (Some (sent_words before.node slot m)) a)
sent_step a m x before after n seen slot version k t within =
    let f : Flight = record { slot = slot; version = version; req = before.id; lane = a.lane } in
    let lanes = k.lanes in
    let lane = k.lane in
    let depths = k.depths in
    let below : a.lane < length x.flights = omega arith in
    let few : slot < length m.depths = omega arith in
    let flights : set x.flights a.lane (get_or x.flights a.lane [] ++ f ∷ []) ≡ set x.flights a.lane (get_or x.flights a.lane [] ++ record f { req = after.id } ∷ []) = ap (λ r. set x.flights a.lane (get_or x.flights a.lane [] ++ record f { req = r } ∷ [])) (sym t.id) in
    record {
      memory = sent_words before.node slot m;
      at = record {
        told = refl;
        rows = k.rows;
        depths = length-set m.depths slot (get_or m.depths slot 0 + 1) ∙ k.depths;
        currents = kept_length (keeps_choice m.order.policy) before.node slot m.currents ∙ k.currents;
        lanes = length-set x.flights a.lane (get_or x.flights a.lane [] ++ record f { req = after.id } ∷ []) ∙ k.lanes;
        lane = k.lane;
        closed = refl;
        flights = ap (λ fs. fs ++ f ∷ []) k.flights ∙ sym (get_or-set_same x.flights a.lane (get_or x.flights a.lane [] ++ f ∷ []) [] below) ∙ ap (λ fs. get_or fs a.lane []) flights;
        counted = λ s. greater m.depths x.flights a.lane f s k.counted below few ∙ ap (λ fs. depth_of (record (state_in m x) { flights = fs }) s) flights;
      };
      state = λ i. record (state_in (sent_words before.node slot m) (with_try a.lane after (open_try (length before.tries + 1) (Sent slot version) n) x)) {
        lasts = lasts_kept m.order.policy before.node slot m.currents i;
        flights = flights i;
        requests = with_tries (sym t.id i) (sym t.tries_are i) x.requests;
        reads = x.reads ++ (sym t.id i, sym t.reads_are i) ∷ [];
      };
      rows = refl;
      orders = refl;
      events = λ i. event.Try (sym t.id i) (length-map before.tries tried_of i + 1) (Sent slot version) ∷ [];
      left = refl;
      lane = refl;
      home = refl;
      others = refl;
      keeping = refl;
    }

-- the words after a submit that sent nothing
abbrev same_words : Memory → Memory
same_words m = left_in m.index (entered_in m.index m)

listed_step : (a : Core) (m : Memory) (x : Beside) (before after : RequestView) (n : Note) (seen : Seen) → IsAt a m x → Tries a m x before after n Listed → TryStep a m x before after n Listed (after_submit before.id n seen Listed (Some (same_words m)) a)
listed_step a m x before after n seen k t = record {
  memory = same_words m;
  at = record {
    told = refl;
    rows = k.rows;
    depths = k.depths;
    currents = k.currents;
    lanes = k.lanes;
    lane = k.lane;
    closed = refl;
    flights = append-nil a.view.flights ∙ k.flights;
    counted = k.counted;
  };
  state = λ i. record (state_in (same_words m) (with_try a.lane after (open_try (length before.tries + 1) Listed n) x)) {
    waiting = x.waiting ++ sym t.id i ∷ [];
    requests = with_tries (sym t.id i) (sym t.tries_are i) x.requests;
    reads = x.reads ++ (sym t.id i, sym t.reads_are i) ∷ [];
  };
  rows = refl;
  orders = refl;
  events = λ i. event.Try (sym t.id i) (length-map before.tries tried_of i + 1) Listed ∷ [];
  left = refl;
  lane = refl;
  home = refl;
  others = refl;
  keeping = refl;
}

failed_step : (a : Core) (m : Memory) (x : Beside) (before after : RequestView) (n : Note) (seen : Seen) → IsAt a m x → Tries a m x before after n Failed → TryStep a m x before after n Failed (after_submit before.id n seen Failed (Some (same_words m)) a)
failed_step a m x before after n seen k t = record {
  memory = same_words m;
  at = record {
    told = refl;
    rows = k.rows;
    depths = k.depths;
    currents = k.currents;
    lanes = k.lanes;
    lane = k.lane;
    closed = refl;
    flights = append-nil a.view.flights ∙ k.flights;
    counted = k.counted;
  };
  state = λ i. record (state_in (same_words m) (with_try a.lane after (open_try (length before.tries + 1) Failed n) x)) {
    requests = with_tries (sym t.id i) (sym t.tries_are i) x.requests;
    reads = x.reads ++ (sym t.id i, sym t.reads_are i) ∷ [];
  };
  rows = refl;
  orders = refl;
  events = λ i. event.Try (sym t.id i) (length-map before.tries tried_of i + 1) Failed ∷ [];
  left = refl;
  lane = refl;
  home = refl;
  others = refl;
  keeping = refl;
}

by_available : (a : Core) (m : Memory) (x : Beside) (before after : RequestView) (n : Note) (seen : Seen) (b : Bool) → IsAt a m x → Tries a m x before after n (if b then Listed else Failed)
    → TryStep a m x before after n (if b then Listed else Failed) (after_submit before.id n seen (if b then Listed else Failed) (Some (same_words m)) a)
by_available a m x before after n seen true k t = listed_step a m x before after n seen k t
by_available a m x before after n seen false k t = failed_step a m x before after n seen k t

-- by the choice on the words
by_choice : (a : Core) (m : Memory) (x : Beside) (before after : RequestView) (n : Note) (seen : Seen) (o : Option Path) → IsAt a m x → Tries a m x before after n (end_with (paths_at m) o) → ((slot version : ℕ) → end_with (paths_at m) o ≡ Sent slot version → slot < 15)
    → TryStep a m x before after n (end_with (paths_at m) o) (after_submit before.id n seen (end_with (paths_at m) o) (Some (left_in m.index (chosen_in (keeps_choice m.order.policy) before.node o (entered_in m.index m)))) a)
by_choice a m x before after n seen None k t within = by_available a m x before after n seen (has_available (paths_at m)) k t
by_choice a m x before after n seen (Some path) k t within =
    subst (λ (w : Memory). TryStep a m x before after n (Sent path.slot path.row.version) (after_submit before.id n seen (Sent path.slot path.row.version) (Some (left_in m.index (sent_in path.slot w))) a)) (sym (kept_words (keeps_choice m.order.policy) before.node path.slot (entered_in m.index m)))
    (sent_step a m x before after n seen path.slot path.row.version k t (within path.slot path.row.version refl))

-- the choice of the plain state is that of the words
choice_same : (p : Policy) (near : Near) (node : ℕ) (currents : List (Option ℕ)) (d e : ℕ → ℕ) (paths : List Path) → d ≡ e → choice_on p near node (get_or (lasts_by p currents) node None) d paths ≡ choice_on p near node (get_or currents node None) e paths
choice_same Numa near node currents d e paths is = refl
choice_same RoundRobin near node currents d e paths is = refl
choice_same QueueDepth near node currents d e paths is = ap (λ f. choice_on QueueDepth near node (get_or currents node None) f paths) is

pub submit_step : (near : Near) (a b : Core) (before after : RequestView) (answer : Submitted) (made : Try) (m : Memory) (x : Beside) → Submits near a b before after answer made → IsAt a m x → request_of (state_in m x) before.id ≡ asked_of before
    → IsStep (submitted near a.lane (state_in m x) before.id) 1 a b (with_try a.lane after made x) [] (try_event after made ∷ [])
submit_step near a b before after answer made m x h k asked =
    let o : Option Path = told_choice near before.node m in
    let ending : TryEnd = end_with (paths_at m) o in
    let n : Note = made.note in
    let end_is : made.end ≡ ending = h.told m k.told in
    let made_is : made ≡ open_try (length before.tries + 1) ending n = h.tried ∙ ap (λ (z : TryEnd). open_try (length before.tries + 1) z n) end_is in
    let reads : read_of n ≡ reads_of a.lane (state_in m x) = λ i. record { lane = h.lane i; order = h.told_order m k.told i; paths = h.told_paths m k.told i } in
    let t : Tries a m x before after n ending = record {
      id = h.id;
      tries_are = ap (map tried_of) (h.tries ∙ ap (λ (y : Try). before.tries ++ y ∷ []) made_is) ∙ map-append tried_of before.tries (open_try (length before.tries + 1) ending n ∷ []);
      reads_are = reads;
    } in
    let depths : depth_of (state_in m x) ≡ depth_at m = λ i slot. sym (k.counted slot) i in
    let step : submitted near a.lane (state_in m x) before.id ≡ tried a.lane (state_in m x) (asked_of before) ending =
    ap (λ (q : Asked). tried a.lane (state_in m x) q (end_of (state_in m x) (choice_by m.order.policy near (state_in m x) q.node))) asked
    ∙ ap (λ (c : Option Path). tried a.lane (state_in m x) (asked_of before) (end_with (paths_at m) c)) (choice_same m.order.policy near before.node m.currents (depth_of (state_in m x)) (depth_at m) (paths_at m) depths) in
    let words : option_map (submitted_in near before.node) a.told ≡ Some (submitted_in near before.node m) = ap (option_map (submitted_in near before.node)) k.told in
    let core : b ≡ after_submit before.id n b.view.seen ending (Some (submitted_in near before.node m)) a = h.view ∙ (λ i. after_submit before.id n b.view.seen (end_is i) (words i) a) in
    subst (λ (y : Stepped). IsStep y 1 a b (with_try a.lane after made x) [] (try_event after made ∷ [])) (sym step)
    (subst (λ (y : Try). IsStep (tried a.lane (state_in m x) (asked_of before) ending) 1 a b (with_try a.lane after y x) [] (try_event after y ∷ [])) (sym made_is)
    (subst (λ (y : Core). TryStep a m x before after n ending y) (sym core)
    (by_choice a m x before after n b.view.seen o k t (λ slot version e. h.within slot version (end_is ∙ e)))))
