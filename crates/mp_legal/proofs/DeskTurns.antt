-- What the desks of the lanes keep from turn to turn.
use Rattle.std.proofs.Common.{◌≡◌, ℕ, ◌+◌, ◌==◌, ◌||◌, Bool, true, false, cond, nat_lt, List, [], ◌∷◌, ◌++◌, map, get_or, inl, inr, refl, sym, ap, ◌∙◌, subst, arith, append-nil, eq-eqb, eqb-true, ◌<◌}
use Rattle.std.specs.List.{AllByRecursion, flat_map}
use Rattle.std.proofs.lemmas.Bool.{cases_Bool}
use Rattle.std.proofs.lemmas.Bool.Decides.{nat_tests}
use Rattle.mp_checks.specs.Marks.{has}
use Rattle.mp_script.specs.Distinct.{IsDistinct}
use Rattle.mp_words.specs.declared.flight.Flight.{Flight}
use Rattle.mp_words.specs.declared.trying.Try.{Try}
use Rattle.mp_words.specs.Request.{Asked, tried_of}
use Rattle.mp_words.specs.RequestView.{RequestView}
use Rattle.mp_core.specs.Core.{Core}
use Rattle.mp_core.specs.Memory.{Memory}
use Rattle.mp_keep.specs.Keeper.{KeeperView}
use Rattle.mp_desk.specs.declared.flying.Flying.{Flying}
use Rattle.mp_desk.specs.DeskView.{DeskView, flying_with}
use Rattle.mp_desk.specs.Calls.{DeskCall, finish, submit, Stand, IsAloft, IsWaiting}
use Rattle.mp_legal.specs.Numbers.{has_req, asked_at}
use Rattle.mp_legal.specs.PlainCall as plain
use Rattle.mp_legal.specs.PlainCall.{Call}
use Rattle.mp_legal.specs.PlainLine.{flights_of, flights_with}
use Rattle.mp_legal.specs.PlainState.{with_new}
use Rattle.mp_legal.specs.Stepped.{Stepped}
use Rattle.mp_legal.specs.ToldDesks.{SitsAt, AreInRun, IsInRun, IsSameIn, MaySubmit, MayCall, MayCalls, Leads, IsNext, AreElsewhere, plain_of, submitted_by, number_of, times, with_request, with_waiting, once_listed}
use Rattle.mp_legal.specs.ToldKeeper.{KeepsAt}
use Rattle.mp_legal.specs.ToldState.{Beside, IsAt, state_in}
use Rattle.mp_legal.specs.TryRead.{read_of}
use Rattle.mp_legal.proofs.DeskRequests.{among_same, all_same, numbered, run_same}
use Rattle.mp_legal.proofs.DeskFinish.{flight_of, request_in}
use Rattle.std.proofs.lemmas.List.Sums.{sum_by-cons}

-- ---- the flights of a lane

with_mapped : (req : ℕ) (fs : List Flying) → flights_with req (map flight_of fs) ≡ map flight_of (flying_with req fs)
with_mapped req [] = refl
with_mapped req (f ∷ fs) =
    elim (cases_Bool (f.flight.req == req)) [
      | inl on ↦ rw on (ap (λ (gs : List Flight). f.flight ∷ gs) (with_mapped req fs))
      | inr off ↦ rw off (with_mapped req fs)
    ]

pub lane_flights : (p : Stand) (before : List ℕ) (m : Memory) (x : Beside) → SitsAt p before m x
    → (flights_of p.core.lane (state_in m x) ≡ map flight_of p.desk.flying) × ((req : ℕ) → flights_with req (flights_of p.core.lane (state_in m x)) ≡ map flight_of (flying_with req p.desk.flying))
lane_flights p before m x h =
    let all : get_or x.flights p.core.lane [] ≡ map flight_of p.desk.flying = sym h.at.flights ∙ h.sits.flights in
    (all, λ req. ap (flights_with req) all ∙ with_mapped req p.desk.flying)

-- ---- what may be called

finishes_each : (p : Stand) (m : Memory) (x : Beside) (fs : List Flying) → AllByRecursion (λ c. MayCall c p m x) (map finish fs)
finishes_each p m x [] = tt
finishes_each p m x (f ∷ fs) = (tt, finishes_each p m x fs)

finishes_once : (fs : List Flying) → flat_map submitted_by (map finish fs) ≡ []
finishes_once [] = refl
finishes_once (f ∷ fs) = finishes_once fs

finishes_plain : (fs : List Flying) → map plain_of (map finish fs) ≡ map plain.finish (map flight_of fs)
finishes_plain [] = refl
finishes_plain (f ∷ fs) = ap (λ (cs : List Call). plain.finish f.flight ∷ cs) (finishes_plain fs)

pub finishes_may : (p : Stand) (m : Memory) (x : Beside) (fs : List Flying) → MayCalls (map finish fs) p m x × (map plain_of (map finish fs) ≡ map plain.finish (map flight_of fs))
finishes_may p m x fs = (record { each = finishes_each p m x fs; once = subst IsDistinct (sym (finishes_once fs)) tt }, finishes_plain fs)

submits_each : (p : Stand) (m : Memory) (x : Beside) (rs : List RequestView) → AllByRecursion (λ r. MaySubmit r p x) rs → AllByRecursion (λ c. MayCall c p m x) (map submit rs)
submits_each p m x [] all = tt
submits_each p m x (r ∷ rs) all = (all.0, submits_each p m x rs all.1)

submits_once : (rs : List RequestView) → flat_map submitted_by (map submit rs) ≡ map (λ r. r.id) rs
submits_once [] = refl
submits_once (r ∷ rs) = ap (λ (ns : List ℕ). r.id ∷ ns) (submits_once rs)

submits_plain : (rs : List RequestView) → map plain_of (map submit rs) ≡ map plain.submit (map (λ r. r.id) rs)
submits_plain [] = refl
submits_plain (r ∷ rs) = ap (λ (cs : List Call). plain.submit r.id ∷ cs) (submits_plain rs)

pub submits_may : (p : Stand) (m : Memory) (x : Beside) (rs : List RequestView) → AllByRecursion (λ r. MaySubmit r p x) rs → IsDistinct (map (λ r. r.id) rs) → MayCalls (map submit rs) p m x × (map plain_of (map submit rs) ≡ map plain.submit (map (λ r. r.id) rs))
submits_may p m x rs all once = (record { each = submits_each p m x rs all; once = subst IsDistinct (sym (submits_once rs)) once }, submits_plain rs)

-- ---- a new request

or_false : (a b : Bool) → (a || b) ≡ false → (a ≡ false) × (b ≡ false)
or_false true b e = absurd cc
or_false false b e = (refl, e)

or_turn : (a b c : Bool) → (a || (b || c)) ≡ (b || (a || c))
or_turn true true c = refl
or_turn true false c = refl
or_turn false b c = refl

-- the request is there, and so are the others
has_new : (req : ℕ) (a : Asked) (requests : List Asked) → has_req req (with_new a requests) ≡ ((a.req == req) || has_req req requests)
has_new req a [] = refl
has_new req a (b ∷ requests) =
    elim (cases_Bool (nat_lt a.req b.req)) [
      | inl low ↦ rw low refl
      | inr high ↦ rw high (ap (λ x. (b.req == req) || x) (has_new req a requests) ∙ or_turn (b.req == req) (a.req == req) (has_req req requests))
    ]

-- a request of another number is as it was
asked_new : (req : ℕ) (a : Asked) (requests : List Asked) → (a.req == req) ≡ false → asked_at req (with_new a requests) ≡ asked_at req requests
asked_new req a [] apart = rw apart refl
asked_new req a (b ∷ requests) apart =
    elim (cases_Bool (nat_lt a.req b.req)) [
      | inl low ↦ rw (low, apart) refl
      | inr high ↦ rw high (elim (cases_Bool (b.req == req)) [
        | inl here ↦ rw here refl
        | inr other ↦ rw other (asked_new req a requests apart)
      ])
    ]

-- the request itself
asked_own : (a : Asked) (requests : List Asked) → has_req a.req requests ≡ false → asked_at a.req (with_new a requests) ≡ a
asked_own a [] fresh = rw (eq-eqb a.req a.req refl) refl
asked_own a (b ∷ requests) fresh =
    let parts = or_false (b.req == a.req) (has_req a.req requests) fresh in
    elim (cases_Bool (nat_lt a.req b.req)) [
      | inl low ↦ rw (low, eq-eqb a.req a.req refl) refl
      | inr high ↦ rw (high, parts.0) (asked_own a requests parts.1)
    ]

same_new : (req : ℕ) (r : RequestView) (x : Beside) → (r.id == req) ≡ false → IsSameIn req x (with_request r x)
same_new req r x apart = record { there = has_new req _ x.requests ∙ ap (λ (b : Bool). b || has_req req x.requests) apart; told = asked_new req _ x.requests apart; read = refl }

eq_swap : (a b : ℕ) → (a == b) ≡ false → (b == a) ≡ false
eq_swap a b e = grind (arith, nat_tests)

apart_eqb : (a b : ℕ) → (a ≡ b → ⊥) → (b == a) ≡ false
apart_eqb a b apart = grind (arith, nat_tests)

both : {A : Type 0} (b : Bool) → b ≡ true → b ≡ false → A
both true e f = absurd cc
both false e f = absurd cc

numbered_of : {X : Type 0} (g : X → RequestView) (req : ℕ) (x : X) (xs : List X) → numbered g req (x ∷ xs) ≡ cond ((g x).id == req) 1 0 + numbered g req xs
numbered_of g req x xs = sum_by-cons (λ x. cond ((g x).id == req) 1 0) x xs

-- no request that stands in the run has a number that the run hasn't
none_of : {X : Type 0} (g : X → RequestView) (run : Beside) (n : ℕ) → has_req n run.requests ≡ false → (xs : List X) → AllByRecursion (λ x. IsInRun run (g x)) xs → numbered g n xs ≡ 0
none_of g run n new [] all = refl
none_of g run n new (x ∷ xs) all = numbered_of g n x xs ∙ by ((g x).id == n) refl (none_of g run n new xs all.1)
  where
    by : (b : Bool) → ((g x).id == n) ≡ b → numbered g n xs ≡ 0 → cond b 1 0 + numbered g n xs ≡ 0
    by true is rest = both (has_req n run.requests) (ap (λ k. has_req k run.requests) (sym (eqb-true (g x).id n is)) ∙ all.0.there) new
    by false is rest = omega (arith, rest)

zero_sum : (a b c : ℕ) → a ≡ 0 → b ≡ 0 → c ≡ 0 → a + (b + c) ≡ 0
zero_sum a b c p q r = omega (arith, p, q, r)

at_still : (c : Core) (m : Memory) (x : Beside) (waiting : List ℕ) (requests : List Asked) → IsAt c m x → IsAt c m (record x { waiting = waiting; requests = requests })
at_still c m x waiting requests k = record { told = k.told; rows = k.rows; depths = k.depths; currents = k.currents; lanes = k.lanes; lane = k.lane; closed = k.closed; flights = k.flights; counted = k.counted }

pub new_may : (p : Stand) (before : List ℕ) (m : Memory) (x : Beside) (r : RequestView) → SitsAt p before m x → r.tries ≡ [] → has_req r.id x.requests ≡ false
    → SitsAt p before m (with_request r x) × MaySubmit r p (with_request r x) × ((req : ℕ) → (req ≡ r.id → ⊥) → IsSameIn req x (with_request r x))
new_may p before m x r h none new = (
  record {
    at = at_still p.core m x x.waiting news h.at;
    sits = h.sits;
    own = h.own;
    requests = record {
      flying = all_same request_in r.id x (with_request r x) same p.desk.flying here.0 h.requests.flying;
      out = all_same (λ (q : RequestView). q) r.id x (with_request r x) same p.desk.out here.1 h.requests.out;
      ended = all_same (λ (q : RequestView). q) r.id x (with_request r x) same p.desk.ended here.2 h.requests.ended;
      once = h.requests.once;
    };
    waiting = h.waiting;
    nobody = h.nobody;
    noted = λ req off. h.noted req (or_false (r.id == req) (has_req req x.requests) (sym (has_new req a x.requests) ∙ off)).1;
  },
  record {
    stands = record {
      there = has_new r.id a x.requests ∙ ap (λ (b : Bool). b || has_req r.id x.requests) (eq-eqb r.id r.id refl);
      told = asked_own a x.requests new ∙ (λ i. record { req = r.id; node = r.node; tries = map tried_of (sym none i) });
      read = ap (map (λ (t : Try). read_of t.note)) none ∙ sym (h.noted r.id new);
    };
    elsewhere = zero_sum _ _ _ here.0 here.1 here.2;
  },
  λ req apart. same_new req r x (apart_eqb req r.id apart),
)
  where
    a : Asked
    a = record { req = r.id; node = r.node; tries = [] }

    news : List Asked
    news = with_new a x.requests

    same : (req : ℕ) → (req == r.id) ≡ false → IsSameIn req x (with_request r x)
    same req apart = same_new req r x (eq_swap req r.id apart)

    here : (numbered request_in r.id p.desk.flying ≡ 0) × (numbered (λ (q : RequestView). q) r.id p.desk.out ≡ 0) × (numbered (λ (q : RequestView). q) r.id p.desk.ended ≡ 0)
    here = (none_of request_in x r.id new p.desk.flying h.requests.flying, none_of (λ (q : RequestView). q) x r.id new p.desk.out h.requests.out, none_of (λ (q : RequestView). q) x r.id new p.desk.ended h.requests.ended)

-- ---- the list

pub list_taken : (p : Stand) (before : List ℕ) (m : Memory) (x : Beside) (waiting : List ℕ) → SitsAt p before m x → p.desk.out ≡ [] → SitsAt p waiting m (with_waiting waiting x)
list_taken p before m x waiting h none = record {
  at = at_still p.core m x waiting x.requests h.at;
  sits = h.sits;
  own = h.own;
  requests = run_same x (with_waiting waiting x) p.desk (λ req. record { there = refl; told = refl; read = refl }) h.requests;
  waiting = sym (append-nil waiting) ∙ ap (λ (rs : List RequestView). waiting ++ map (λ r. r.id) rs) (sym none);
  nobody = h.nobody;
  noted = h.noted;
}

pub list_given : (p : Stand) (before : List ℕ) (m : Memory) (x : Beside) → SitsAt p before m x → SitsAt (once_listed p) x.waiting m x
list_given p before m x h = record {
  at = h.at;
  sits = record { closed = h.sits.closed; flights = h.sits.flights; aloft = h.sits.aloft; waiting = tt };
  own = h.own;
  requests = record { flying = h.requests.flying; out = tt; ended = h.requests.ended; once = λ req. let most = h.requests.once req in omega arith };
  waiting = sym (append-nil x.waiting);
  nobody = h.nobody;
  noted = h.noted;
}

-- ---- the lanes elsewhere

-- requests whose numbers are none of these stand in a run in which none else changed
all_but : {X : Type 0} (g : X → RequestView) (ns : List ℕ) (old new : Beside) → ((req : ℕ) → has ns req ≡ false → IsSameIn req old new)
    → (xs : List X) → ((req : ℕ) → has ns req ≡ true → numbered g req xs ≡ 0) → AllByRecursion (λ x. IsInRun old (g x)) xs → AllByRecursion (λ x. IsInRun new (g x)) xs
all_but g ns old new same [] none all = tt
all_but g ns old new same (x ∷ xs) none all = (by (has ns (g x).id) refl, all_but g ns old new same xs rest all.1)
  where
    by : (b : Bool) → has ns (g x).id ≡ b → IsInRun new (g x)
    by true is =
        let zero_is : cond ((g x).id == (g x).id) 1 0 + numbered g (g x).id xs ≡ 0 = sym (numbered_of g (g x).id x xs) ∙ none (g x).id is in
        absurd (one_is ((g x).id == (g x).id) (numbered g (g x).id xs) (eq-eqb (g x).id (g x).id refl) zero_is)
      where
        one_is : (b : Bool) (n : ℕ) → b ≡ true → cond b 1 0 + n ≡ 0 → ⊥
        one_is true n e sum = omega (arith, sum)
        one_is false n e sum = absurd cc
    by false is = among_same (g x) old new (same (g x).id is) all.0

    rest : (req : ℕ) → has ns req ≡ true → numbered g req xs ≡ 0
    rest req is = less ((g x).id == req) (numbered g req xs) (sym (numbered_of g req x xs) ∙ none req is)
      where
        less : (b : Bool) (n : ℕ) → cond b 1 0 + n ≡ 0 → n ≡ 0
        less true n sum = absurd (omega (arith, sum))
        less false n sum = omega (arith, sum)

pub lane_elsewhere : (step : Stepped) (calls : List DeskCall) (p q r s : Stand) (before since : List ℕ) (m : Memory) (x : Beside) → (l : Leads step calls p q before m x) → SitsAt r since m x → (r.core.lane ≡ p.core.lane → ⊥) → r.desk.out ≡ [] → AreElsewhere calls r.desk → IsNext q r s
    → SitsAt s l.beside.waiting l.memory l.beside
lane_elsewhere step calls p q r s before since m x l h apart none away n =
    let y : Beside = l.beside in
    let ns : List ℕ = flat_map number_of calls in
    let now = l.sits.at in
    let flying : s.core.view.flights ≡ map flight_of r.desk.flying = n.flights ∙ h.sits.flights in
    record {
      at = record {
        told = n.told ∙ now.told;
        rows = now.rows;
        depths = now.depths;
        currents = now.currents;
        lanes = now.lanes;
        lane = subst (λ l. l < 17) (sym n.lane) h.at.lane;
        closed = n.inside ∙ h.at.closed;
        flights = n.flights ∙ h.at.flights ∙ sym (l.flights r.core.lane apart) ∙ ap (λ k. get_or y.flights k []) (sym n.lane);
        counted = now.counted;
      };
      sits = record {
        closed = n.inside ∙ h.sits.closed;
        flights = flying ∙ ap (λ (d : DeskView). map flight_of d.flying) (sym n.desk);
        aloft = subst (λ (d : DeskView). AllByRecursion IsAloft d.flying) (sym n.desk) h.sits.aloft;
        waiting = subst (λ (d : DeskView). AllByRecursion IsWaiting d.out) (sym n.desk) h.sits.waiting;
      };
      own = subst (λ (d : DeskView). AllByRecursion (λ (f : Flying). f.flight.lane ≡ s.core.lane) d.flying) (sym n.desk) (subst (λ k. AllByRecursion (λ (f : Flying). f.flight.lane ≡ k) r.desk.flying) (sym n.lane) h.own);
      requests = subst (AreInRun y) (sym n.desk) (record {
        flying = all_but request_in ns x y l.requests r.desk.flying (λ req is. first req (away req is)) h.requests.flying;
        out = all_but (λ (z : RequestView). z) ns x y l.requests r.desk.out (λ req is. second req (away req is)) h.requests.out;
        ended = all_but (λ (z : RequestView). z) ns x y l.requests r.desk.ended (λ req is. third req (away req is)) h.requests.ended;
        once = h.requests.once;
      });
      waiting = sym (append-nil y.waiting) ∙ ap (λ (rs : List RequestView). y.waiting ++ map (λ z. z.id) rs) (sym none) ∙ ap (λ (d : DeskView). y.waiting ++ map (λ z. z.id) d.out) (sym n.desk);
      nobody = l.sits.nobody;
      noted = l.sits.noted;
    }
  where
    first : (req : ℕ) → times req r.desk ≡ 0 → numbered request_in req r.desk.flying ≡ 0
    first req e = omega (arith, e)

    second : (req : ℕ) → times req r.desk ≡ 0 → numbered (λ (z : RequestView). z) req r.desk.out ≡ 0
    second req e = omega (arith, e)

    third : (req : ℕ) → times req r.desk ≡ 0 → numbered (λ (z : RequestView). z) req r.desk.ended ≡ 0
    third req e = omega (arith, e)

pub keeper_still : (k : KeeperView) (m : Memory) (x y : Beside) → KeepsAt k (state_in m x) → y.removals ≡ x.removals → y.flips ≡ x.flips → KeepsAt k (state_in m y)
keeper_still k m x y h removals flips = record { order = h.order; within = h.within; owners = h.owners; removals = removals ∙ h.removals; rest = h.rest; flips = flips ∙ h.flips }
