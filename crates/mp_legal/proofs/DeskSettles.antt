-- All flights of a lane's desk have ended.
use Rattle.std.proofs.Common.{◌≡◌, ℕ, ◌+◌, ◌-◌, ◌<◌, ◌≤◌, ◌==◌, true, false, cond, List, [], ◌∷◌, ◌++◌, length, map, get_or, set, count_by, Option, Some, None, option_map, inl, inr, refl, sym, ap, ◌∙◌, subst, arith, eq-eqb, get_or-set_same, get_or-set_other}
use Rattle.std.specs.List.{AllByRecursion, sum_by}
use Rattle.std.proofs.lemmas.Bool.{cases_eq}
use Rattle.std.proofs.lemmas.Bool.Decides.{nat_tests}
use Rattle.std.proofs.lemmas.List.{length-set, get_or_past}
use Rattle.std.proofs.lemmas.List.Sums.{sum_by-set, sum_by-cons}
use Rattle.mp_words.specs.declared.flight.Flight.{Flight}
use Rattle.mp_words.proofs.Places.{cases_lt}
use Rattle.mp_core.specs.declared.view.Held.{Held}
use Rattle.mp_core.specs.Core.{Core}
use Rattle.mp_core.specs.Kinds.{Lands}
use Rattle.mp_core.specs.Memory.{Memory, depth_at, landed_in}
use Rattle.mp_keep.specs.Keeper.{KeeperView, StandsTo}
use Rattle.mp_desk.specs.declared.flying.Flying.{Flying}
use Rattle.mp_desk.specs.DeskView.{DeskView}
use Rattle.mp_desk.specs.Calls.{DeskCall, submit, finish, change, add, remove, set_policy, reap, Means, Stand, StopsTo, EndsAll, TakesFlying, IsAloft, IsWaiting, landed_all}
use Rattle.mp_legal.specs.PlainCall.{Inputs}
use Rattle.mp_legal.specs.PlainState.{State}
use Rattle.mp_legal.specs.Stepped.{Stepped, tells}
use Rattle.mp_legal.specs.ToldDesks.{GoesBy, SitsAt, MayCalls, Leads, FallsBy, AreInRun, plain_of, place_at, told_events, times}
use Rattle.mp_legal.specs.ToldKeeper.{KeepsAt, orders_in}
use Rattle.mp_legal.specs.ToldState.{Beside, IsAt, state_in}
use Rattle.mp_legal.specs.Units.{Paid, each_paid, pay_call, settled}
use Rattle.mp_legal.proofs.DeskFinish.{flight_of}
use Rattle.mp_legal.proofs.DeskLists.{leads_none, desk_stopped}
use Rattle.mp_legal.proofs.DeskNobody.{nobody_same}
use Rattle.mp_legal.proofs.DeskRequests.{run_same}
use Rattle.mp_legal.proofs.KeeperKept.{keeps_on, stands_same}

-- only the depths change
pub landed_same : (flights : List Flight) (m : Memory) → landed_all flights m ≡ record m { depths = (landed_all flights m).depths }
landed_same [] m = refl
landed_same (f ∷ flights) m = landed_same flights (landed_in f.slot m)

pub landed_length : (flights : List Flight) (m : Memory) → length (landed_all flights m).depths ≡ length m.depths
landed_length [] m = refl
landed_length (f ∷ flights) m = landed_length flights (landed_in f.slot m) ∙ length-set m.depths f.slot (get_or m.depths f.slot 0 - 1)

-- how many of these flights are on a slot
abbrev pub counted : ℕ → List Flight → ℕ
counted slot flights = count_by (λ g. g.slot == slot) flights

apart_eqb : (a b : ℕ) → (a ≡ b → ⊥) → (a == b) ≡ false
apart_eqb a b apart = grind (arith, nat_tests)

one_less : (m : Memory) (at slot : ℕ) → depth_at (landed_in at m) slot ≡ depth_at m slot - cond (at == slot) 1 0
one_less m at slot =
    elim (cases_eq slot at) [
      | inl is ↦ let same : (at == slot) ≡ true = eq-eqb at slot (sym is) in
          let here : get_or (set m.depths at (get_or m.depths at 0 - 1)) at 0 ≡ get_or m.depths at 0 - 1 =
          elim (cases_lt at (length m.depths)) [
            | inl lt ↦ get_or-set_same m.depths at (get_or m.depths at 0 - 1) 0 lt
            | inr past ↦ let none : get_or m.depths at 0 ≡ 0 = get_or_past m.depths at 0 past in
                let out : get_or (set m.depths at (get_or m.depths at 0 - 1)) at 0 ≡ 0 = get_or_past (set m.depths at (get_or m.depths at 0 - 1)) at 0 (omega (arith, past, length-set m.depths at (get_or m.depths at 0 - 1))) in
                omega arith
          ] in
          rw same (ap (λ s. get_or (set m.depths at (get_or m.depths at 0 - 1)) s 0) is ∙ here ∙ ap (λ s. get_or m.depths s 0 - 1) (sym is))
      | inr apart ↦ let other : (at == slot) ≡ false = apart_eqb at slot (λ e. apart (sym e)) in
          let there : get_or (set m.depths at (get_or m.depths at 0 - 1)) slot 0 ≡ get_or m.depths slot 0 = get_or-set_other m.depths at slot (get_or m.depths at 0 - 1) 0 apart in
          rw other (omega arith)
    ]

counted_cons : (slot : ℕ) (f : Flight) (flights : List Flight) → counted slot (f ∷ flights) ≡ cond (f.slot == slot) 1 0 + counted slot flights
counted_cons slot f flights = sum_by-cons (λ (g : Flight). cond (g.slot == slot) 1 0) f flights

pub all_less : (flights : List Flight) (m : Memory) (slot : ℕ) → depth_at (landed_all flights m) slot ≡ depth_at m slot - counted slot flights
all_less [] m slot = omega arith
all_less (f ∷ flights) m slot =
    let later = all_less flights (landed_in f.slot m) slot in
    let one = one_less m f.slot slot in
    let sum = counted_cons slot f flights in
    omega arith

-- the flights of all lanes on a slot, once those of one lane have ended
total_less : (flights : List (List Flight)) (lane slot : ℕ) → lane < length flights → sum_by (counted slot) flights - counted slot (get_or flights lane []) ≡ sum_by (counted slot) (set flights lane [])
total_less flights lane slot lt = let e = sum_by-set (counted slot) flights lane [] [] lt in omega arith

-- what a pass knows once these flights, which are all that it had, have ended
abbrev pub ended_core : List Flight → Option Held → Core → Core
ended_core flights last a = record a { view = record (a.view) { flights = []; keeping = record (a.view.keeping) { last = last } }; told = option_map (landed_all flights) a.told }

-- All flights of a lane have ended, in some order, and nothing else was done.
pub record AllGone (fs : List Flight) (p q : Stand) : Type 0 where
  pub core : q.core ≡ ended_core fs q.core.view.keeping.last p.core
  pub desk : q.desk ≡ record (p.desk) { flying = [] }
  pub keeper : q.keeper ≡ p.keeper
  pub same : (slot : ℕ) → counted slot fs ≡ counted slot p.core.view.flights

-- what a run has once the flights of a lane have ended
abbrev without_lane : ℕ → Beside → Beside
without_lane lane x = record x { flights = set x.flights lane [] }

gone_at : (fs : List Flight) (p q : Stand) (m : Memory) (x : Beside) → IsAt p.core m x → AllGone fs p q → IsAt q.core (landed_all fs m) (without_lane p.core.lane x)
gone_at fs p q m x k g =
    let lane : ℕ = p.core.lane in
    let lane_is : q.core.lane ≡ lane = ap (λ (c : Core). c.lane) g.core in
    let lanes = k.lanes in
    let low = k.lane in
    let lt : lane < length x.flights = omega arith in
    record {
      told = ap (λ (c : Core). c.told) g.core ∙ ap (option_map (landed_all fs)) k.told;
      rows = ap (λ (w : Memory). length w.rows) (landed_same fs m) ∙ k.rows;
      depths = landed_length fs m ∙ k.depths;
      currents = ap (λ (w : Memory). length w.currents) (landed_same fs m) ∙ k.currents;
      lanes = length-set x.flights lane [] ∙ k.lanes;
      lane = subst (λ l. l < 17) (sym lane_is) k.lane;
      closed = ap (λ (c : Core). c.view.inside) g.core ∙ k.closed;
      flights = ap (λ (c : Core). c.view.flights) g.core ∙ sym (get_or-set_same x.flights lane [] [] lt) ∙ ap (λ l. get_or (set x.flights lane []) l []) (sym lane_is);
      counted = λ slot. all_less fs m slot ∙ (λ i. k.counted slot i - (g.same slot ∙ ap (counted slot) k.flights) i) ∙ total_less x.flights lane slot lt;
    }

gone_keeps : (fs : List Flight) (m : Memory) (x : Beside) (lane : ℕ) (k : KeeperView) → KeepsAt k (state_in m x) → KeepsAt k (state_in (landed_all fs m) (without_lane lane x))
gone_keeps fs m x lane k h =
    subst (λ (w : Memory). KeepsAt k (state_in w (without_lane lane x))) (sym (landed_same fs m))
    (keeps_on k (state_in m x) (state_in (record m { depths = (landed_all fs m).depths }) (without_lane lane x)) (record { order = refl; owners = refl; removals = refl; flips = refl }) h)

-- the state without the flights of a lane
abbrev pub lane_ended : ℕ → State → State
lane_ended lane s = record s { flights = set s.flights lane [] }

pub gone_leads : (step : Stepped) (calls : List DeskCall) (fs : List Flight) (p r q : Stand) (before : List ℕ) (m : Memory) (x : Beside) → Leads step calls p r before m x → AllGone fs r q
    → Leads (record step { state = lane_ended p.core.lane step.state }) calls p q before m x
gone_leads step calls fs p r q before m x l g =
    let h = l.sits in
    let m1 : Memory = l.memory in
    let x1 : Beside = l.beside in
    let y : Beside = without_lane r.core.lane x1 in
    let same = l.pass in
    let words : (landed_all fs m1).sides ≡ m1.sides = ap (λ (w : Memory). w.sides) (landed_same fs m1) in
    let few : (req : ℕ) → times req q.desk ≤ times req r.desk = λ req. subst (λ (e : DeskView). times req e ≤ times req r.desk) (sym g.desk) (omega arith) in
    record {
      memory = landed_all fs m1;
      beside = without_lane r.core.lane x1;
      sits = record {
        at = gone_at fs r q m1 x1 h.at g;
        sits = record {
          closed = ap (λ (c : Core). c.view.inside) g.core ∙ h.sits.closed;
          flights = ap (λ (c : Core). c.view.flights) g.core ∙ ap (λ (e : DeskView). map (λ (f : Flying). f.flight) e.flying) (sym g.desk);
          aloft = subst (λ (e : DeskView). AllByRecursion IsAloft e.flying) (sym g.desk) tt;
          waiting = subst (λ (e : DeskView). AllByRecursion IsWaiting e.out) (sym g.desk) h.sits.waiting;
        };
        own = subst (λ (e : DeskView). AllByRecursion (λ (f : Flying). f.flight.lane ≡ q.core.lane) e.flying) (sym g.desk) tt;
        requests = subst (AreInRun y) (sym g.desk) (run_same x1 y (record (r.desk) { flying = [] }) (λ req. record { there = refl; told = refl; read = refl }) (record { flying = tt; out = h.requests.out; ended = h.requests.ended; once = λ req. let most = h.requests.once req in omega arith }));
        waiting = h.waiting ∙ ap (λ (e : DeskView). before ++ map (λ r. r.id) e.out) (sym g.desk);
        nobody = nobody_same m1 (landed_all fs m1) words h.nobody;
        noted = h.noted;
      };
      state = (λ i. lane_ended (sym same.lane i) (l.state i)) ∙ ap (λ (w : Memory). state_in w (without_lane r.core.lane x1)) (sym (landed_same fs m1));
      rows = ap (λ (e : DeskView). e.rows) g.desk ∙ l.rows;
      orders = ap (λ (z : KeeperView). orders_in z.entries) g.keeper ∙ l.orders;
      events = ap (λ (e : DeskView). told_events e.events) g.desk ∙ l.events;
      pass = record {
        home = ap (λ (c : Core). c.home) g.core ∙ same.home;
        lane = ap (λ (c : Core). c.lane) g.core ∙ same.lane;
        alone = ap (λ (c : Core). c.alone) g.core ∙ same.alone;
        others = ap (λ (c : Core). c.others) g.core ∙ same.others;
        role = ap (λ (c : Core). c.view.role) g.core ∙ same.role;
        start = ap (λ (c : Core). c.view.keeping.start) g.core ∙ same.start;
      };
      keeper = λ was. let old = l.keeper was in
          record {
            stands = subst (λ (z : KeeperView). StandsTo z q.core.view) (sym g.keeper)
                (stands_same r.keeper r.core.view q.core.view (ap (λ (c : Core). c.view.role) g.core) (ap (λ (c : Core). c.view.keeping.start) g.core) (ap (λ (c : Core). c.view.keeping.events) g.core)
                (ap (λ (c : Core). c.view.keeping.flips) g.core) (ap (λ (c : Core). c.view.keeping.index) g.core) old.stands);
            agrees = subst (λ (z : KeeperView). KeepsAt z (state_in (landed_all fs m1) (without_lane r.core.lane x1))) (sym g.keeper) (gone_keeps fs m1 x1 r.core.lane r.keeper old.agrees);
          };
      desk = λ req apart. let one = few req in let two = l.desk req apart in omega arith;
      requests = λ req apart. let s = l.requests req apart in record { there = s.there; told = s.told; read = s.read };
      flights = λ lane apart. get_or-set_other x1.flights r.core.lane lane [] [] (λ is. apart (is ∙ same.lane)) ∙ l.flights lane apart;
      agrees = λ lanes k sound old. gone_keeps fs m1 x1 r.core.lane k (l.agrees lanes k sound old);
    }

-- all flights of the desk ended
gone_ends : (p : Stand) (b : Core) (e : DeskView) (k : KeeperView) (before : List ℕ) (m : Memory) (x : Beside) → k ≡ p.keeper → SitsAt p before m x → EndsAll p.core b p.desk e → AllGone (map flight_of p.desk.flying) p (record { core = b; desk = e; keeper = k })
gone_ends p b e k before m x is h ends = record { core = ends.core; desk = ends.desk; keeper = is; same = λ slot. ap (counted slot) (sym h.sits.flights) }

pub desk_ended : (p : Stand) (b : Core) (e : DeskView) (before : List ℕ) (m : Memory) (x : Beside) → SitsAt p before m x → EndsAll p.core b p.desk e
    → Leads (tells (record (state_in m x) { flights = set x.flights p.core.lane [] }) []) [] p (record { core = b; desk = e; keeper = p.keeper }) before m x
desk_ended p b e before m x h ends = gone_leads (tells (state_in m x) []) [] (map flight_of p.desk.flying) p p (record { core = b; desk = e; keeper = p.keeper }) before m x (leads_none p before m x h) (gone_ends p b e p.keeper before m x refl h ends)

-- the flights that ended where a call stopped
ended_same : (p q : Stand) (b : Core) (e : DeskView) (before : List ℕ) (m : Memory) (x : Beside) → SitsAt p before m x → q ≡ p → EndsAll q.core b q.desk e → (fs : List Flight) × AllGone fs p (record { core = b; desk = e; keeper = q.keeper })
ended_same p q b e before m x h is ends =
    (map flight_of p.desk.flying, gone_ends p b e q.keeper before m x (ap (λ (z : Stand). z.keeper) is) h (subst (λ (z : Stand). EndsAll z.core b z.desk e) is ends))

counted_middle : (slot : ℕ) (bf : List Flying) (f : Flying) (af : List Flying) → counted slot (f.flight ∷ map flight_of (bf ++ af)) ≡ counted slot (map flight_of (bf ++ f ∷ af))
counted_middle slot [] f af = refl
counted_middle slot (g ∷ bf) f af =
    let rest = counted_middle slot bf f af in
    let one = counted_cons slot f.flight (map flight_of (bf ++ af)) in
    let two = counted_cons slot f.flight (g.flight ∷ map flight_of (bf ++ af)) in
    let three = counted_cons slot g.flight (map flight_of (bf ++ af)) in
    let four = counted_cons slot g.flight (map flight_of (bf ++ f ∷ af)) in
    omega (arith, rest, one, two, three, four)

landed_told : (f : Flight) (flights : List Flight) (t : Option Memory) → option_map (landed_all flights) (option_map (landed_in f.slot) t) ≡ option_map (landed_all (f ∷ flights)) t
landed_told f flights None = refl
landed_told f flights (Some m) = refl

ended_fallen : (f : Flying) (p q : Stand) (b : Core) (e : DeskView) (before : List ℕ) (m : Memory) (x : Beside) → SitsAt p before m x → TakesFlying f p.desk q.desk → Lands p.core q.core f.flight → q.keeper ≡ p.keeper → EndsAll q.core b q.desk e
    → (fs : List Flight) × AllGone fs p (record { core = b; desk = e; keeper = q.keeper })
ended_fallen f p q b e before m x h t lands keeper ends =
    let bf : List Flying = t.before in
    let af : List Flying = t.after in
    let rest : List Flight = map flight_of (bf ++ af) in
    let last : Option Held = b.view.keeping.last in
    let core : b ≡ ended_core (f.flight ∷ rest) last p.core =
    ends.core ∙ ap (λ (d : DeskView). ended_core (map flight_of d.flying) last q.core) t.is ∙ ap (ended_core rest last) lands.after
    ∙ (λ i. record (ended_core (f.flight ∷ rest) last p.core) { told = landed_told f.flight rest p.core.told i }) in (
      f.flight ∷ rest,
      record {
        core = core;
        desk = ends.desk ∙ ap (λ (d : DeskView). record d { flying = [] }) t.is;
        keeper = keeper;
        same = λ slot. counted_middle slot bf f af ∙ ap (λ (fs : List Flying). counted slot (map flight_of fs)) (sym t.was) ∙ ap (counted slot) (sym h.sits.flights);
      },
    )

ended_stopped : (c : DeskCall) (p q : Stand) (b : Core) (e : DeskView) (before : List ℕ) (m : Memory) (x : Beside) → SitsAt p before m x → FallsBy c p q → EndsAll q.core b q.desk e → (fs : List Flight) × AllGone fs p (record { core = b; desk = e; keeper = q.keeper })
ended_stopped (submit request) p q b e before m x h to ends = ended_same p q b e before m x h to ends
ended_stopped (finish f) p q b e before m x h to ends = ended_fallen f p q b e before m x h to.0 to.1 to.2 ends
ended_stopped (change ctrl o) p q b e before m x h to ends = ended_same p q b e before m x h to ends
ended_stopped (add gift) p q b e before m x h to ends = ended_same p q b e before m x h to ends
ended_stopped (remove ctrl) p q b e before m x h to ends = ended_same p q b e before m x h to ends
ended_stopped (set_policy policy) p q b e before m x h to ends = ended_same p q b e before m x h to ends
ended_stopped reap p q b e before m x h to ends = ended_same p q b e before m x h to ends

-- a lane whose calls stopped, and whose flights have then ended
pub desk_settled : (i : Inputs) (w : Means) (cs : List DeskCall) (p q : Stand) (b : Core) (e : DeskView) (before : List ℕ) (m : Memory) (x : Beside) → GoesBy i w → SitsAt p before m x → MayCalls cs p m x → StopsTo w cs p q → EndsAll q.core b q.desk e
    → Leads (settled p.core.lane (each_paid (pay_call i (place_at w p)) (state_in m x) p.core.view.left (map plain_of cs))).step cs p (record { core = b; desk = e; keeper = q.keeper }) before m x
desk_settled i w cs p q b e before m x by h may to ends =
    let s = desk_stopped i w cs p q before m x by h may to in
    let g = ended_stopped s.stopped s.mid q b e before s.leads.memory s.leads.beside s.leads.sits s.falls ends in
    subst (λ (z : Paid). Leads (settled p.core.lane z).step cs p (record { core = b; desk = e; keeper = q.keeper }) before m x) (sym s.paid)
    (gone_leads s.step cs g.0 p s.mid (record { core = b; desk = e; keeper = q.keeper }) before m x s.leads g.1)
