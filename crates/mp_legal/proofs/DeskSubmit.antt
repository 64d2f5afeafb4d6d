-- A submit of a desk is the plain run's.
use Rattle.std.proofs.Common.{◌≡◌, ℕ, ◌+◌, ◌≤◌, ◌==◌, ◌||◌, Bool, true, false, cond, List, [], ◌∷◌, ◌++◌, map, get_or, set, length, option_map, Option, Some, None, refl, sym, ap, ◌∙◌, subst, arith, append-nil, append_assoc, eqb-true, get_or-set_other}
use Rattle.std.specs.List.{AllByRecursion, last_or}
use Rattle.std.proofs.lemmas.Bool.Decides.{nat_tests}
use Rattle.std.proofs.lemmas.List.{map-append}
use Rattle.std.proofs.lemmas.List.Elements.{filter-append}
use Rattle.mp_words.specs.declared.near.Near.{Near}
use Rattle.mp_words.specs.declared.path.Path.{Path}
use Rattle.mp_words.specs.declared.trying.Outcome.{Outcome}
use Rattle.mp_words.specs.declared.trying.Try.{Try}
use Rattle.mp_words.specs.declared.trying.TryEnd.{TryEnd}
use Rattle.mp_words.specs.declared.trying.TryEnd.TheVariants as end
use Rattle.mp_words.specs.declared.words.Side.{Side}
use Rattle.mp_words.specs.Request.{Tried, tried_of, asked_of, outcome_of, outcome_after}
use Rattle.mp_words.specs.RequestView.{RequestView}
use Rattle.mp_record.specs.RunView.{is_plain}
use Rattle.mp_core.specs.Core.{Core}
use Rattle.mp_core.specs.Memory.{Memory, entered_in, no_side, one_out}
use Rattle.mp_submit.specs.Choice.{told_choice, keeps_choice}
use Rattle.mp_submit.specs.Submits.{open_try, flights_of, submitted_in, chosen_in}
use Rattle.mp_desk.specs.declared.flying.Flying.{Flying}
use Rattle.mp_desk.specs.DeskView.{DeskView, noting, placing}
use Rattle.mp_desk.specs.Says.{section, try_event}
use Rattle.mp_desk.specs.Calls.{submit, Means, Stand, Submitting, IsAloft, IsWaiting}
use Rattle.mp_legal.specs.Numbers.{asked_at, has_req}
use Rattle.mp_legal.specs.PlainCall.{Inputs}
use Rattle.mp_legal.specs.PlainState.{request_of, with_tries}
use Rattle.mp_legal.specs.PlainSubmit.{submitted}
use Rattle.mp_legal.specs.Stepped.{Stepped}
use Rattle.mp_legal.specs.ToldCalls.{IsStep, with_try, placed}
use Rattle.mp_legal.specs.ToldDesks.{GoesBy, SitsAt, AreInRun, IsInRun, MaySubmit, IsSameIn, told_events, times}
use Rattle.mp_legal.specs.ToldKeeper.{NobodyInside}
use Rattle.mp_legal.specs.ToldState.{Beside, state_in}
use Rattle.mp_legal.specs.TryRead.{TryRead, read_of, notes_of, notes_for}
use Rattle.mp_legal.proofs.DeskNobody.{nobody_visited}
use Rattle.mp_legal.proofs.DeskRequests.{among_tries, all_same, all_append, numbered-append, same_tries, notes_more, notes_own, notes_other}
use Rattle.mp_legal.proofs.DeskSteps.{LaneStep}
use Rattle.mp_legal.proofs.KeeperKept.{submit_stands, submitted_same, keeps_on}
use Rattle.mp_legal.proofs.SubmitStep.{submit_step}

-- how a request stands after a try that ended so
abbrev first_outcome : TryEnd → Outcome
first_outcome ending = outcome_after ending (record { end = ending; statuses = []; back = None })

last_of : (xs : List Tried) (o : Option Tried) (x : Tried) → last_or o (xs ++ x ∷ []) ≡ Some x
last_of [] o x = refl
last_of (y ∷ xs) o x = last_of xs (Some y) x

-- the last try of a request is the one that was made
try_outcome : (before after : RequestView) (made : Try) → after.tries ≡ before.tries ++ made ∷ [] → made ≡ open_try (length before.tries + 1) made.end made.note → outcome_of (last_or None (asked_of after).tries) ≡ first_outcome made.end
try_outcome before after made tries opened =
    ap (λ (ts : List Try). outcome_of (last_or None (map tried_of ts))) tries
    ∙ ap (λ (ts : List Tried). outcome_of (last_or None ts)) (map-append tried_of before.tries (made ∷ []))
    ∙ ap outcome_of (last_of (map tried_of before.tries) None (tried_of made))
    ∙ ap (λ (t : Try). outcome_after t.end (tried_of t)) opened

-- the flights of a desk after a try
placed_flights : (lane : ℕ) (r : RequestView) (ending : TryEnd) (d : DeskView) → map (λ (f : Flying). f.flight) d.flying ++ flights_of lane r.id ending ≡ map (λ (f : Flying). f.flight) (placing lane r ending d).flying
placed_flights lane r (end.Sent slot version) d = sym (map-append (λ (f : Flying). f.flight) d.flying _)
placed_flights lane r end.Listed d = append-nil _
placed_flights lane r end.Failed d = append-nil _

placed_aloft : (lane : ℕ) (r : RequestView) (ending : TryEnd) (d : DeskView) → outcome_of (last_or None (asked_of r).tries) ≡ first_outcome ending → AllByRecursion IsAloft d.flying → AllByRecursion IsAloft (placing lane r ending d).flying
placed_aloft lane r (end.Sent slot version) d is all = all_append IsAloft d.flying _ all ((refl, is), tt)
placed_aloft lane r end.Listed d is all = all
placed_aloft lane r end.Failed d is all = all

placed_waits : (lane : ℕ) (r : RequestView) (ending : TryEnd) (d : DeskView) → outcome_of (last_or None (asked_of r).tries) ≡ first_outcome ending → AllByRecursion IsWaiting d.out → AllByRecursion IsWaiting (placing lane r ending d).out
placed_waits lane r (end.Sent slot version) d is all = all
placed_waits lane r end.Listed d is all = all_append IsWaiting d.out (r ∷ []) all (is, tt)
placed_waits lane r end.Failed d is all = all

placed_own : (lane : ℕ) (r : RequestView) (ending : TryEnd) (d : DeskView) → AllByRecursion (λ (f : Flying). f.flight.lane ≡ lane) d.flying → AllByRecursion (λ (f : Flying). f.flight.lane ≡ lane) (placing lane r ending d).flying
placed_own lane r (end.Sent slot version) d all = all_append (λ (f : Flying). f.flight.lane ≡ lane) d.flying _ all (refl, tt)
placed_own lane r end.Listed d all = all
placed_own lane r end.Failed d all = all

placed_waiting : (lane : ℕ) (r : RequestView) (ending : TryEnd) (d : DeskView) (before : List ℕ) (x : Beside) → x.waiting ≡ before ++ map (λ (r : RequestView). r.id) d.out
    → (placed lane r.id ending x).waiting ≡ before ++ map (λ (r : RequestView). r.id) (placing lane r ending d).out
placed_waiting lane r (end.Sent slot version) d before x is = is
placed_waiting lane r end.Listed d before x is =
    ap (λ (ns : List ℕ). ns ++ r.id ∷ []) is ∙ append_assoc before (map (λ (r : RequestView). r.id) d.out) (r.id ∷ [])
    ∙ ap (λ (ns : List ℕ). before ++ ns) (sym (map-append (λ (r : RequestView). r.id) d.out (r ∷ [])))
placed_waiting lane r end.Failed d before x is = is

placed_rows : (lane : ℕ) (r : RequestView) (ending : TryEnd) (d : DeskView) → (placing lane r ending d).rows ≡ d.rows
placed_rows lane r (end.Sent slot version) d = refl
placed_rows lane r end.Listed d = refl
placed_rows lane r end.Failed d = refl

placed_events : (lane : ℕ) (r : RequestView) (ending : TryEnd) (d : DeskView) → (placing lane r ending d).events ≡ d.events
placed_events lane r (end.Sent slot version) d = refl
placed_events lane r end.Listed d = refl
placed_events lane r end.Failed d = refl

-- the numbers of a desk after a try
pub placed_times : (lane : ℕ) (r : RequestView) (ending : TryEnd) (d : DeskView) (req : ℕ) → times req (placing lane r ending d) ≡ times req d + cond (r.id == req) 1 0
placed_times lane r (end.Sent slot version) d req =
    let e = numbered-append (λ (f : Flying). f.request) req d.flying (record { flight = record { slot = slot; version = version; req = r.id; lane = lane }; request = r } ∷ []) in omega arith
placed_times lane r end.Listed d req = let e = numbered-append (λ (q : RequestView). q) req d.out (r ∷ []) in omega arith
placed_times lane r end.Failed d req = let e = numbered-append (λ (q : RequestView). q) req d.ended (r ∷ []) in omega arith

-- the requests of a desk after a try stand in the run
pub record Placing (r : RequestView) (d : DeskView) (y : Beside) : Type 0 where
  pub own : IsInRun y r
  pub flying : AllByRecursion (λ (f : Flying). IsInRun y f.request) d.flying
  pub out : AllByRecursion (IsInRun y) d.out
  pub ended : AllByRecursion (IsInRun y) d.ended
  pub once : (req : ℕ) → times req d + cond (r.id == req) 1 0 ≤ 1

pub stand_placed : (lane : ℕ) (r : RequestView) (ending : TryEnd) (d : DeskView) (y : Beside) → Placing r d y → AreInRun y (placing lane r ending d)
stand_placed lane r (end.Sent slot version) d y s = record {
  flying = all_append (λ (f : Flying). IsInRun y f.request) d.flying _ s.flying (s.own, tt);
  out = s.out;
  ended = s.ended;
  once = λ req. let e = placed_times lane r (end.Sent slot version) d req in let o = s.once req in omega arith;
}
stand_placed lane r end.Listed d y s = record {
  flying = s.flying;
  out = all_append (IsInRun y) d.out (r ∷ []) s.out (s.own, tt);
  ended = s.ended;
  once = λ req. let e = placed_times lane r end.Listed d req in let o = s.once req in omega arith;
}
stand_placed lane r end.Failed d y s = record {
  flying = s.flying;
  out = s.out;
  ended = all_append (IsInRun y) d.ended (r ∷ []) s.ended (s.own, tt);
  once = λ req. let e = placed_times lane r end.Failed d req in let o = s.once req in omega arith;
}

pub placed_now : (r : RequestView) (d : DeskView) (x y : Beside) → ((req : ℕ) → (req == r.id) ≡ false → IsSameIn req x y) → IsInRun y r → times r.id d ≡ 0 → AreInRun x d → Placing r d y
placed_now r d x y same own new h =
    record {
      own = own;
      flying = all_same (λ (f : Flying). f.request) r.id x y same d.flying (omega (arith, new)) h.flying;
      out = all_same (λ (q : RequestView). q) r.id x y same d.out (omega (arith, new)) h.out;
      ended = all_same (λ (q : RequestView). q) r.id x y same d.ended (omega (arith, new)) h.ended;
      once = λ req. once req (r.id == req) refl;
    }
  where
    once : (req : ℕ) (b : Bool) → (r.id == req) ≡ b → times req d + cond b 1 0 ≤ 1
    once req true is = let none : times req d ≡ 0 = ap (λ n. times n d) (sym (eqb-true r.id req is)) ∙ new in omega arith
    once req false is = let most = h.once req in omega arith

-- nobody is inside after a submit
chosen_sides : (keeps : Bool) (node : ℕ) (choice : Option Path) (m : Memory) → (chosen_in keeps node choice m).sides ≡ m.sides
chosen_sides keeps node None m = refl
chosen_sides true node (Some path) m = refl
chosen_sides false node (Some path) m = refl

inj_some : (m n : Memory) → Some m ≡ Some n → m ≡ n
inj_some m n e = cc

nobody_submitted : (near : Near) (node : ℕ) (m n : Memory) (a t : Option Memory) → a ≡ Some m → t ≡ option_map (submitted_in near node) a → t ≡ Some n → NobodyInside m → NobodyInside n
nobody_submitted near node m n a t told after is nobody =
    let words : n ≡ submitted_in near node m = inj_some n (submitted_in near node m) (sym is ∙ after ∙ ap (option_map (submitted_in near node)) told) in
    nobody_visited m.index m n
    (ap (λ (w : Memory). w.sides) words ∙ ap (λ (ss : List Side). set ss m.index (one_out (get_or ss m.index no_side))) (chosen_sides (keeps_choice m.order.policy) node (told_choice near node m) (entered_in m.index m))) nobody

-- the flights of other lanes stay
placed_others : (lane other req : ℕ) (ending : TryEnd) (x : Beside) → (other ≡ lane → ⊥) → get_or (placed lane req ending x).flights other [] ≡ get_or x.flights other []
placed_others lane other req (end.Sent slot version) x apart = get_or-set_other x.flights lane other _ [] apart
placed_others lane other req end.Listed x apart = refl
placed_others lane other req end.Failed x apart = refl

or_first : (a b : Bool) → (a || b) ≡ false → a ≡ false
or_first false b e = refl
or_first true b e = absurd cc

eq_swap : (a b : ℕ) → (a == b) ≡ false → (b == a) ≡ false
eq_swap a b e = grind (arith, nat_tests)

both_ways : {A : Type 0} (b : Bool) → b ≡ true → b ≡ false → A
both_ways true e f = absurd cc
both_ways false e f = absurd cc

pub no_more : (t u : ℕ) (b : Bool) → t ≡ u + cond b 1 0 → b ≡ false → t ≤ u
no_more t u true e off = absurd cc
no_more t u false e off = omega arith

-- nothing was read for a request that the run hasn't, where one that it has changed
pub not_had : (req changed : ℕ) (x y : Beside) → ((req == changed) ≡ false → IsSameIn req x y) → ((n : ℕ) → has_req n x.requests ≡ false → notes_for n x.reads ≡ []) → (b : Bool) → (req == changed) ≡ b → has_req changed y.requests ≡ true → has_req req y.requests ≡ false → notes_for req y.reads ≡ []
not_had req changed x y same noted true is there off = both_ways (has_req req y.requests) (ap (λ n. has_req n y.requests) (eqb-true req changed is) ∙ there) off
not_had req changed x y same noted false is there off = let s = same is in s.read ∙ noted req (sym s.there ∙ off)

pub desk_submit : (i : Inputs) (w : Means) (r : RequestView) (p q : Stand) (before : List ℕ) (m : Memory) (x : Beside) → GoesBy i w → SitsAt p before m x → MaySubmit r p x → (s : Submitting w r p q)
    → LaneStep (submitted i.topology.near p.core.lane (state_in m x) r.id) 1 (submit r ∷ []) p q before m x (with_try p.core.lane s.after s.made x) [] (try_event s.after s.made ∷ [])
desk_submit i w r p q before m x by h may s =
    let lane : ℕ = p.core.lane in
    let b : RequestView = s.before in
    let a : RequestView = s.after in
    let u = s.submits in
    let was : b.id ≡ r.id = ap (λ (z : RequestView). z.id) s.same in
    let node : b.node ≡ r.node = ap (λ (z : RequestView). z.node) s.same in
    let same : asked_of b ≡ asked_of r = ap (λ (z : RequestView). asked_of z) s.same in
    let id : a.id ≡ r.id = u.id ∙ was in
    let asked : request_of (state_in m x) b.id ≡ asked_of b = ap (λ n. asked_at n x.requests) was ∙ may.stands.told ∙ sym same in
    let y : Beside = with_try lane a s.made x in
    let there : IsInRun x b = record { there = ap (λ n. has_req n x.requests) was ∙ may.stands.there; told = asked; read = ap (λ (z : RequestView). notes_of z) s.same ∙ may.stands.read ∙ ap (λ n. notes_for n x.reads) (sym was) } in
    let requests : y.requests ≡ with_tries a.id (asked_of a).tries x.requests = refl in
    let same_in : (req : ℕ) → (req == a.id) ≡ false → IsSameIn req x y = λ req apart. same_tries req a.id (asked_of a).tries x y requests (notes_more req x.reads ((a.id, read_of s.made.note) ∷ []) ∙ ap (λ (ns : List TryRead). notes_for req x.reads ++ ns) (notes_other req a.id (read_of s.made.note) (eq_swap req a.id apart)) ∙ append-nil (notes_for req x.reads)) apart in
    let read : notes_of a ≡ notes_for a.id y.reads =
    ap (map (λ (t : Try). read_of t.note)) u.tries ∙ map-append (λ (t : Try). read_of t.note) b.tries (s.made ∷ [])
    ∙ (λ j. (there.read ∙ ap (λ n. notes_for n x.reads) (sym u.id)) j ++ sym (notes_own a.id (read_of s.made.note)) j)
    ∙ sym (notes_more a.id x.reads ((a.id, read_of s.made.note) ∷ [])) in
    let own_in : IsInRun y a = among_tries b a x y requests read u.id u.node there in
    let step : IsStep (submitted w.near lane (state_in m x) b.id) 1 p.core q.core (with_try lane a s.made x) [] (try_event a s.made ∷ []) = submit_step w.near p.core q.core b a s.answer s.made m x u h.at asked in
    let d : DeskView = noting (section s.made.note ∷ try_event a s.made ∷ []) p.desk in
    let desk : q.desk ≡ placing lane a s.made.end d = s.desk in
    let ends : outcome_of (last_or None (asked_of a).tries) ≡ first_outcome s.made.end = try_outcome b a s.made u.tries u.tried in
    let new : times a.id p.desk ≡ 0 = ap (λ n. times n p.desk) id ∙ may.elsewhere in
    let old : AreInRun x d = record { flying = h.requests.flying; out = h.requests.out; ended = h.requests.ended; once = h.requests.once } in
    record {
      steps = subst (λ (z : Stepped). IsStep z 1 p.core q.core (with_try lane a s.made x) [] (try_event a s.made ∷ [])) (λ j. submitted (sym by.near j) lane (state_in m x) (was j)) step;
      alone = ap (λ (c : Core). c.alone) u.view;
      role = ap (λ (c : Core). c.view.role) u.view;
      flying = ap (λ (c : Core). c.view.flights) u.view ∙ (λ j. h.sits.flights j ++ flights_of lane (sym u.id j) s.made.end) ∙ placed_flights lane a s.made.end d ∙ ap (λ (e : DeskView). map (λ (f : Flying). f.flight) e.flying) (sym desk);
      aloft = subst (λ (e : DeskView). AllByRecursion IsAloft e.flying) (sym desk) (placed_aloft lane a s.made.end d ends h.sits.aloft);
      waits = subst (λ (e : DeskView). AllByRecursion IsWaiting e.out) (sym desk) (placed_waits lane a s.made.end d ends h.sits.waiting);
      own = subst (λ (e : DeskView). AllByRecursion (λ (f : Flying). f.flight.lane ≡ lane) e.flying) (sym desk) (placed_own lane a s.made.end d h.own);
      stand = subst (AreInRun y) (sym desk) (stand_placed lane a s.made.end d y (placed_now a d x y same_in own_in new old));
      noted = λ req off. not_had req a.id x y (same_in req) h.noted (req == a.id) refl own_in.there off;
      waiting = placed_waiting lane a s.made.end d before x h.waiting ∙ ap (λ (e : DeskView). before ++ map (λ (z : RequestView). z.id) e.out) (sym desk);
      nobody = λ n told. nobody_submitted w.near b.node m n p.core.told q.core.told h.at.told (ap (λ (c : Core). c.told) u.view) told h.nobody;
      keeper = s.keeper;
      stands = submit_stands w.near p.core q.core b a s.answer s.made u;
      agrees = λ k sound kept. keeps_on k (state_in m x) _ (submitted_same i.topology.near lane (state_in m x) r.id) kept;
      rows = ap (λ (e : DeskView). e.rows) desk ∙ placed_rows lane a s.made.end d ∙ sym (append-nil p.desk.rows);
      events = ap (λ (e : DeskView). told_events e.events) desk ∙ ap told_events (placed_events lane a s.made.end d) ∙ filter-append is_plain p.desk.events (section s.made.note ∷ try_event a s.made ∷ []);
      desk = λ req apart.
          let other : (a.id == req) ≡ false = ap (λ n. n == req) id ∙ or_first (r.id == req) false apart in
          no_more (times req q.desk) (times req p.desk) (a.id == req) (ap (times req) desk ∙ placed_times lane a s.made.end d req) other;
      requests = λ req apart. same_in req (eq_swap a.id req (ap (λ n. n == req) id ∙ or_first (r.id == req) false apart));
      flights = λ other apart. placed_others lane other a.id s.made.end x apart;
    }
