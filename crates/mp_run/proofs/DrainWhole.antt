-- The drain is the plain run's.
use Rattle.std.proofs.Common.{[], ◌≡◌, ℕ, zero, suc, ◌+◌, ◌≤◌, ◌<◌, ◌==◌, ◌||◌, Bool, cond, List, ◌∷◌, ◌++◌, map, length, replicate, count_by, get_or, eq-eqb, append-nil, None, Some, refl, sym, ap, ◌∙◌, subst, arith}
use Rattle.std.specs.Prelude.{sum_by, Result, Ok, Err}
use Rattle.std.specs.List.{AllByRecursion, flat_map, list_any}
use Rattle.std.proofs.lemmas.List.{length-map}
use Rattle.std.proofs.lemmas.List.Sums.{sum_by-append, sum_by-cons}
use Rattle.mp_script.specs.Distinct.{IsDistinct}
use Rattle.mp_words.specs.declared.entry.RowEntry.{RowEntry}
use Rattle.mp_words.specs.RequestView.{RequestView}
use Rattle.mp_core.specs.Core.{Core}
use Rattle.mp_core.specs.Memory.{Memory}
use Rattle.mp_core.specs.Unpacked.{unpacked}
use Rattle.mp_plain.specs.Told.{told_core}
use Rattle.mp_keep.specs.Keeper.{StandsTo}
use Rattle.mp_desk.specs.declared.flying.Flying.{Flying}
use Rattle.mp_desk.specs.DeskView.{DeskView}
use Rattle.mp_desk.specs.Calls.{CallsTo, Means, Stand, StopsTo, reap}
use Rattle.mp_desk.specs.declared.halt.Halt.{Halt}
use Rattle.mp_desk.specs.declared.halt.Halt.TheVariants as halt
use Rattle.mp_desk.specs.Desks.{desk_of, stand}
use Rattle.mp_legal.specs.Drain.{drain_place, is_sent}
use Rattle.mp_legal.specs.PlainCall as plain
use Rattle.mp_legal.specs.PlainCall.{Call, Inputs, call}
use Rattle.mp_legal.specs.PlainState.{State}
use Rattle.mp_legal.specs.Stepped.{Stepped, each, joined}
use Rattle.mp_legal.specs.ToldDesks.{AreInRun, GoesBy, IsInRun, IsSameIn, KeepsIn, Leads, MayCall, MayCalls, SitsAt, number_of, place_at, plain_of, submitted_by, times}
use Rattle.mp_legal.specs.ToldState.{Beside, state_in}
use Rattle.mp_legal.specs.Units.{Paid, each_paid, pay_call, pay_drain, pay_round, pay_rounds}
use Rattle.mp_run.specs.declared.runner.Runner.{Runner}
use Rattle.mp_run.specs.DeskLaws.{DeskLaws}
use Rattle.mp_run.specs.DrainAll.{Drained, Drains}
use Rattle.mp_run.specs.Draining.{EachStops, ReapsDo, RoundTo, Rounds, RoundsDo, RoundsStop, RoundsTo, drain_stand, round_said}
use Rattle.mp_run.specs.Runner.{core_for, lane_at, left_of, no_lane, stand_at, state_by, IsTied, Story}
use Rattle.mp_lane.specs.LaneView.{LaneView}
use Rattle.mp_run.proofs.DrainLeads.{then_none, then_paid}
use Rattle.mp_run.proofs.DrainRounds.{AtRound, RoundGoes, goes_then, round_goes, round_short, rounds_go, rounds_none, rounds_short}
use Rattle.mp_run.proofs.LaneParts.{one_of}
use Rattle.mp_run.proofs.LaneStarts.{among, often}

-- ---- the removals

reaps_desk : (w : Means) (n : ℕ) (p q : Stand) → CallsTo w (replicate n reap) p q → (q.desk.out ≡ p.desk.out) × (q.desk.flying ≡ p.desk.flying)
reaps_desk w zero p q to = (ap (λ (z : Stand). z.desk.out) to, ap (λ (z : Stand). z.desk.flying) to)
reaps_desk w (suc n) p q to =
    let rest = reaps_desk w n to.0 q to.2 in
    let one = to.1.goes.desk in
    (rest.0 ∙ ap (λ (d : DeskView). d.out) one, rest.1 ∙ ap (λ (d : DeskView). d.flying) one)

reaps_may : (n : ℕ) (p : Stand) (m : Memory) (x : Beside) → KeepsIn p m x → AllByRecursion (λ c. MayCall c p m x) (replicate n reap)
reaps_may zero p m x k = tt
reaps_may (suc n) p m x k = (k, reaps_may n p m x k)

reaps_submit : (n : ℕ) → flat_map submitted_by (replicate n reap) ≡ []
reaps_submit zero = refl
reaps_submit (suc n) = reaps_submit n

reaps_number : (n : ℕ) → flat_map number_of (replicate n reap) ≡ []
reaps_number zero = refl
reaps_number (suc n) = reaps_number n

plain_reaps : (slots : List ℕ) (n : ℕ) → length slots ≡ n → map (λ slot. plain.reap) slots ≡ map plain_of (replicate n reap)
plain_reaps [] zero is = refl
plain_reaps [] (suc n) is = absurd cc
plain_reaps (s ∷ slots) zero is = absurd cc
plain_reaps (s ∷ slots) (suc n) is = ap (λ (cs : List Call). plain.reap ∷ cs) (plain_reaps slots n (omega (arith, is)))

-- the removals as they are paid for
abbrev pub reaps_paid : Inputs → Memory → Beside → ℕ → Paid
reaps_paid i m x left = each_paid (pay_call i drain_place) (state_in m x) left (map (λ slot. plain.reap) x.removals)

-- where the removals are carried from
pub record Reaps (w : Means) (n : ℕ) (l : List RequestView) (p : Stand) (m : Memory) (x : Beside) : Type 0 where
  pub at : AtRound p l m x
  pub line : w.line ≡ 0
  pub many : length x.removals ≡ n
  pub may : MayCalls (replicate n reap) p m x

begin_reaps : (w : Means) (n : ℕ) (l : List RequestView) (p : Stand) (m : Memory) (x : Beside) → AtRound p l m x → w.line ≡ 0 → n ≡ length p.keeper.removals → Reaps w n l p m x
begin_reaps w n l p m x h line is = record {
  at = h;
  line = line;
  many = ap length h.keeper.agrees.removals ∙ length-map p.keeper.removals (λ r. r.slot) ∙ sym is;
  may = record { each = reaps_may n p m x h.keeper; once = subst IsDistinct (sym (reaps_submit n)) tt };
}

place_is : (w : Means) (p : Stand) → w.line ≡ 0 → p.core.lane ≡ 16 → place_at w p ≡ drain_place
place_is w p line lane = λ j. record { lane = lane j; line = line j }

pub reaps_go : (laws : DeskLaws) (i : Inputs) (w : Means) (n : ℕ) (l : List RequestView) (p q : Stand) (m : Memory) (x : Beside) → GoesBy i w → Reaps w n l p m x → CallsTo w (replicate n reap) p q
    → RoundGoes (reaps_paid i m x p.core.view.left) (list_any is_sent (reaps_paid i m x p.core.view.left).step.events) l l p q m x
reaps_go laws i w n l p q m x by b to = subst (λ (z : Paid). RoundGoes z (list_any is_sent z.step.events) l l p q m x) (sym paid) (record {
  memory = led.memory;
  beside = y;
  at = record {
    lane = led.pass.lane ∙ h.lane;
    sits = subst (λ (ns : List ℕ). SitsAt q ns led.memory y) (sym waiting) led.sits;
    flying = desks.1 ∙ h.flying;
    out = out;
    keeper = led.keeper h.keeper;
    waiting = waiting ∙ h.waiting;
    listed = still l h.listed;
    once = λ req. let most = h.once req in let same = times_same req in omega (arith, most, same);
  };
  state = led.state;
  rows = led.rows;
  orders = led.orders;
  events = led.events;
  left = refl;
  sent_is = refl;
  others = λ req none. same req;
  all = λ req. ap (λ (k : ℕ). among req l + k) (times_same req);
})
  where
    h : AtRound p l m x
    h = b.at

    step : Stepped
    step = each (call i (place_at w p)) (state_in m x) (map plain_of (replicate n reap))

    led : Leads step (replicate n reap) p q x.waiting m x
    led = (laws.calls_are i w (replicate n reap) p q x.waiting m x by h.sits b.may to).0

    y : Beside
    y = led.beside

    paid : reaps_paid i m x p.core.view.left ≡ record { step = step; left = Some q.core.view.left }
    paid =
        (λ j. each_paid (pay_call i (sym (place_is w p b.line h.lane) j)) (state_in m x) p.core.view.left (plain_reaps x.removals n b.many j))
        ∙ (laws.calls_are i w (replicate n reap) p q x.waiting m x by h.sits b.may to).1

    desks : (q.desk.out ≡ p.desk.out) × (q.desk.flying ≡ p.desk.flying)
    desks = reaps_desk w n p q to

    out : q.desk.out ≡ []
    out = desks.0 ∙ h.out

    waiting : y.waiting ≡ x.waiting
    waiting = led.sits.waiting ∙ ap (λ (rs : List RequestView). x.waiting ++ map (λ r. r.id) rs) out ∙ append-nil x.waiting

    same : (req : ℕ) → IsSameIn req x y
    same req = led.requests req (ap (λ (ns : List ℕ). list_any (λ k. k == req) ns) (reaps_number n))

    times_same : (req : ℕ) → times req q.desk ≡ times req p.desk
    times_same req = let e = laws.keep_requests w (replicate n reap) p q to req in let none = ap (often req) (reaps_submit n) in omega (arith, e, none)

    still : (rs : List RequestView) → AllByRecursion (IsInRun x) rs → AllByRecursion (IsInRun y) rs
    still [] all = tt
    still (r ∷ rs) all =
        let s = same r.id in
        let t = all.0 in
        (record { there = s.there ∙ t.there; told = s.told ∙ t.told; read = t.read ∙ sym s.read }, still rs all.1)

reaps_short : (laws : DeskLaws) (i : Inputs) (w : Means) (n : ℕ) (l : List RequestView) (p q : Stand) (m : Memory) (x : Beside) → GoesBy i w → Reaps w n l p m x → StopsTo w (replicate n reap) p q
    → (reaps_paid i m x p.core.view.left).left ≡ None
reaps_short laws i w n l p q m x by b to =
    (λ j. (each_paid (pay_call i (sym (place_is w p b.line b.at.lane) j)) (state_in m x) p.core.view.left (plain_reaps x.removals n b.many j)).left)
    ∙ (laws.stopped_are i w (replicate n reap) p q x.waiting m x by b.at.sits b.may to).spent

-- ---- all of the drain

drain_paid : (i : Inputs) (m : Memory) (x : Beside) (left more most : ℕ) (mem : Memory) (y : Beside) → (reaps_paid i m x left).left ≡ Some more → (reaps_paid i m x left).step.state ≡ state_in mem y → most ≡ length y.waiting + length i.answers
    → pay_drain i (state_in m x) left
    ≡ record { step = joined (reaps_paid i m x left).step (pay_rounds i most (pay_round i (state_in mem y) more)).step; left = (pay_rounds i most (pay_round i (state_in mem y) more)).left }
drain_paid i m x left more most mem y is state many =
    let next : State → ℕ → Paid = λ t rest. pay_rounds i (length t.waiting + length i.answers) (pay_round i t rest) in
    let same : next (reaps_paid i m x left).step.state more ≡ pay_rounds i most (pay_round i (state_in mem y) more) =
    ap (λ (t : State). next t more) state ∙ ap (λ (n : ℕ). pay_rounds i n (pay_round i (state_in mem y) more)) (sym many) in
    then_paid (reaps_paid i m x left) next more (pay_rounds i most (pay_round i (state_in mem y) more)) is same

pub drain_goes : (laws : DeskLaws) (i : Inputs) (w : Means) (n most : ℕ) (any : Bool) (l mid after : List RequestView) (p r s q : Stand) (m : Memory) (x : Beside) → GoesBy i w → Reaps w n l p m x → most ≡ length l + length i.answers
    → CallsTo w (replicate n reap) p r → RoundTo w any l mid r s → RoundsTo w most any mid after s q
    → (sent : Bool) × RoundGoes (pay_drain i (state_in m x) p.core.view.left) sent l after p q m x
drain_goes laws i w n most any l mid after p r s q m x by b many reaps round rounds =
    let one = reaps_go laws i w n l p r m x by b reaps in
    let two = round_goes laws i w any l mid r s one.memory one.beside by b.line one.at round in
    let three = rounds_go laws i w most any (pay_round i (state_in one.memory one.beside) r.core.view.left) l mid after r s q one.memory one.beside by b.line two rounds in
    let first : Paid = reaps_paid i m x p.core.view.left in
    let rest : Paid = pay_rounds i most (pay_round i (state_in one.memory one.beside) r.core.view.left) in
    let sent : Bool = list_any is_sent first.step.events || list_any is_sent rest.step.events in
    let all = goes_then first rest (list_any is_sent first.step.events) (list_any is_sent rest.step.events) l l after p r q m x one three in
    let waits : most ≡ length one.beside.waiting + length i.answers = many ∙ ap (λ (k : ℕ). k + length i.answers) (sym (ap length one.at.waiting ∙ length-map l (λ (z : RequestView). z.id))) in
    (sent, subst (λ (z : Paid). RoundGoes z sent l after p q m x) (sym (drain_paid i m x p.core.view.left r.core.view.left most one.memory one.beside one.left one.state waits)) all)

pub drain_short_reaps : (laws : DeskLaws) (i : Inputs) (w : Means) (n : ℕ) (l : List RequestView) (p q : Stand) (m : Memory) (x : Beside) → GoesBy i w → Reaps w n l p m x → StopsTo w (replicate n reap) p q
    → (pay_drain i (state_in m x) p.core.view.left).left ≡ None
drain_short_reaps laws i w n l p q m x by b to =
    then_none (reaps_paid i m x p.core.view.left) (λ t rest. pay_rounds i (length t.waiting + length i.answers) (pay_round i t rest)) (reaps_short laws i w n l p q m x by b to)

pub drain_short_first : (laws : DeskLaws) (i : Inputs) (w : Means) (n : ℕ) (l : List RequestView) (p r q : Stand) (m : Memory) (x : Beside) → GoesBy i w → Reaps w n l p m x → CallsTo w (replicate n reap) p r → EachStops w l (round_said l r) q
    → (pay_drain i (state_in m x) p.core.view.left).left ≡ None
drain_short_first laws i w n l p r q m x by b reaps to =
    let one = reaps_go laws i w n l p r m x by b reaps in
    let most : ℕ = length one.beside.waiting + length i.answers in
    let first : Paid = pay_round i (state_in one.memory one.beside) r.core.view.left in
    let none : (pay_rounds i most first).left ≡ None = rounds_none i most first (round_short laws i w l r q one.memory one.beside by b.line one.at to) in
    ap (λ (z : Paid). z.left) (drain_paid i m x p.core.view.left r.core.view.left most one.memory one.beside one.left one.state refl) ∙ none

pub drain_short_rounds : (laws : DeskLaws) (i : Inputs) (w : Means) (n most : ℕ) (any : Bool) (l mid : List RequestView) (p r s q : Stand) (m : Memory) (x : Beside) → GoesBy i w → Reaps w n l p m x → most ≡ length l + length i.answers
    → CallsTo w (replicate n reap) p r → RoundTo w any l mid r s → RoundsStop w most any mid s q → (pay_drain i (state_in m x) p.core.view.left).left ≡ None
drain_short_rounds laws i w n most any l mid p r s q m x by b many reaps round stop =
    let one = reaps_go laws i w n l p r m x by b reaps in
    let two = round_goes laws i w any l mid r s one.memory one.beside by b.line one.at round in
    let first : Paid = pay_round i (state_in one.memory one.beside) r.core.view.left in
    let none : (pay_rounds i most first).left ≡ None = rounds_short laws i w most any first l mid r s q one.memory one.beside by b.line two stop in
    let waits : most ≡ length one.beside.waiting + length i.answers = many ∙ ap (λ (k : ℕ). k + length i.answers) (sym (ap length one.at.waiting ∙ length-map l (λ (z : RequestView). z.id))) in
    ap (λ (z : Paid). z.left) (drain_paid i m x p.core.view.left r.core.view.left most one.memory one.beside one.left one.state waits) ∙ none

-- ---- the run

inj_some : (m n : Memory) → Some m ≡ Some n → m ≡ n
inj_some m n e = cc

-- requests elsewhere stand in the run where none of theirs has changed
each_same : {X : Type 0} (g : X → RequestView) (x y : Beside) → (xs : List X) → ((n : ℕ) → 1 ≤ count_by (λ z. (g z).id == n) xs → IsSameIn n x y) → AllByRecursion (λ z. IsInRun x (g z)) xs → AllByRecursion (λ z. IsInRun y (g z)) xs
each_same g x y [] same all = tt
each_same g x y (z ∷ zs) same all =
    let sum = λ (n : ℕ). sum_by-cons (λ v. cond ((g v).id == n) 1 0) z zs in
    let s = same (g z).id (let e = sum (g z).id in let one : ◌≡◌ {A = ℕ} (cond ((g z).id == (g z).id) 1 0) 1 = ap (λ (b : Bool). cond b 1 0) (eq-eqb (g z).id (g z).id refl) in omega (arith, e, one)) in
    let t = all.0 in
    (record { there = s.there ∙ t.there; told = s.told ∙ t.told; read = t.read ∙ sym s.read }, each_same g x y zs (λ n some. same n (let e = sum n in omega (arith, e, some))) all.1)

desk_same : (x y : Beside) (d : DeskView) → ((n : ℕ) → 1 ≤ times n d → IsSameIn n x y) → AreInRun x d → AreInRun y d
desk_same x y d same h = record {
  flying = each_same (λ (f : Flying). f.request) x y d.flying (λ n some. same n (omega (arith, some))) h.flying;
  out = each_same (λ (r : RequestView). r) x y d.out (λ n some. same n (omega (arith, some))) h.out;
  ended = each_same (λ (r : RequestView). r) x y d.ended (λ n some. same n (omega (arith, some))) h.ended;
  once = h.once;
}

count_append : (of : RowEntry → Bool) (xs ys : List RowEntry) → count_by of (xs ++ ys) ≡ count_by of xs + count_by of ys
count_append of xs ys = sum_by-append (λ (e : RowEntry). cond (of e) 1 0) xs ys

-- where the drain begins
pub at_first : (a : Runner) (s : Story) → IsTied a s → a.drain.flights.flying ≡ [] → StandsTo a.keeper (core_for 16 a.plain).view → AtRound (stand_at 16 (desk_of a.drain) a.keeper a.plain) a.list (unpacked a.plain.words) s.beside
at_first a s tied quiet stands = record {
  lane = refl;
  sits = tied.drain;
  flying = quiet;
  out = tied.drain_out;
  keeper = record { stands = stands; agrees = tied.agrees };
  waiting = tied.waiting;
  listed = tied.listed;
  once = λ req. let most = tied.once req in omega (arith, most);
}

pub begins_at : (a : Runner) (s : Story) (w : Means) → IsTied a s → a.drain.flights.flying ≡ [] → w.line ≡ 0 → StandsTo a.keeper (core_for 16 a.plain).view
    → Reaps w (length a.keeper.removals) a.list (stand_at 16 (desk_of a.drain) a.keeper a.plain) (unpacked a.plain.words) s.beside
begins_at a s w tied quiet line stands = begin_reaps w (length a.keeper.removals) a.list (stand_at 16 (desk_of a.drain) a.keeper a.plain) (unpacked a.plain.words) s.beside (at_first a s tied quiet stands) line refl

pub drain_done : (i : Inputs) (paid : Paid) (sent : Bool) (a b : Runner) (s : Story) → IsTied a s → b.lanes.items ≡ a.lanes.items
    → RoundGoes paid sent a.list b.list (stand_at 16 (desk_of a.drain) a.keeper a.plain) (drain_stand b.plain b.drain b.keeper) (unpacked a.plain.words) s.beside
    → (left : ℕ) × (paid.left ≡ Some left) × ((t : Story) × Drained paid a b s t)
drain_done i paid sent a b s tied lanes g = (
  (told_core b.plain).view.left,
  g.left,
  (
    record { beside = g.beside; rows = s.rows ++ paid.step.rows },
    record {
      state = (λ j. state_in (words j) g.beside) ∙ sym g.state;
      rows = refl;
      made = λ of.
          let all = count_append of s.rows paid.step.rows in
          let was = tied.made of in
          let own = ap (count_by of) g.rows ∙ count_append of a.drain.rows.items paid.step.rows in
          let same : sum_by (λ (u : LaneView). count_by of u.desk.rows) b.lanes.items ≡ sum_by (λ (u : LaneView). count_by of u.desk.rows) a.lanes.items = ap (sum_by (λ (u : LaneView). count_by of u.desk.rows)) lanes in
          omega (arith, all, was, own, same);
      orders = g.orders;
      told = g.events;
      lanes = lanes;
      elsewhere = λ n low.
          let below : n < length a.lanes.items = omega (arith, low, ap length lanes) in
          let old : LaneView = lane_at n a in
          let is : old ≡ lane_at n b = ap (λ (ls : List LaneView). get_or ls n no_lane) (sym lanes) in
          subst (λ (u : LaneView). AreInRun g.beside u.desk) is (desk_same s.beside g.beside old.desk (λ req some. g.others req (none_of req n below some)) (tied.lanes n below).sits.requests);
      desk = g.at.sits.requests;
      listed = g.at.listed;
      quiet = g.at.flying;
      out = g.at.out;
      all = λ req.
          let same : sum_by (λ (u : LaneView). times req u.desk) b.lanes.items ≡ sum_by (λ (u : LaneView). times req u.desk) a.lanes.items = ap (sum_by (λ (u : LaneView). times req u.desk)) lanes in
          let sum = g.all req in
          sums (sum_by (λ (u : LaneView). times req u.desk) a.lanes.items) (sum_by (λ (u : LaneView). times req u.desk) b.lanes.items) (among req a.list + times req (desk_of a.drain)) (among req b.list + times req (desk_of b.drain)) same sum;
    },
  ),
)
  where
    words : unpacked b.plain.words ≡ g.memory
    words = inj_some (unpacked b.plain.words) g.memory g.at.sits.at.told

    none_of : (req n : ℕ) → n < length a.lanes.items → 1 ≤ times req (lane_at n a).desk → among req a.list + times req (desk_of a.drain) ≡ 0
    none_of req n low some =
        let most = tied.once req in
        let mine = one_of (λ (u : LaneView). times req u.desk) a.lanes.items no_lane n low in
        omega (arith, most, mine, some)

    sums : (k n x y : ℕ) → n ≡ k → y ≡ x → n + y ≡ k + x
    sums k n x y e f = omega (arith, e, f)

-- ---- by the answers of the calls

-- the drain stands at its turn where it was
abbrev pub from_turn : Runner → Core → Stand
from_turn a c = stand c (desk_of a.drain) a.keeper

begins_from : (a : Runner) (s : Story) (w : Means) (c : Core) → IsTied a s → a.drain.flights.flying ≡ [] → w.line ≡ 0 → c ≡ core_for 16 a.plain → StandsTo a.keeper c.view → Reaps w (length a.keeper.removals) a.list (from_turn a c) (unpacked a.plain.words) s.beside
begins_from a s w c tied quiet line core stands =
    subst (λ (z : Core). Reaps w (length a.keeper.removals) a.list (from_turn a z) (unpacked a.plain.words) s.beside) (sym core) (begins_at a s w tied quiet line (subst (λ (z : Core). StandsTo a.keeper z.view) core stands))

-- what was paid for from the turn
left_from : (i : Inputs) (a : Runner) (s : Story) (c : Core) → c ≡ core_for 16 a.plain → pay_drain i (state_by a s) (left_of 16 a) ≡ pay_drain i (state_in (unpacked a.plain.words) s.beside) (from_turn a c).core.view.left
left_from i a s c core = ap (λ (z : Core). pay_drain i (state_by a s) z.view.left) (sym core)

pub whole_err_reaps : {U : Type 0} (T : Type 0) (laws : DeskLaws) (i : Inputs) (w : Means) (result : Result U Halt) (h : Halt) (a f : Runner) (s : Story) (c : Core) (q : Stand) → GoesBy i w → w.line ≡ 0 → IsTied a s → a.drain.flights.flying ≡ [] → c ≡ core_for 16 a.plain → StandsTo a.keeper c.view
    → result ≡ Err h → ReapsDo result w (length a.keeper.removals) (from_turn a c) q → Drains {T = T} (Err h) (pay_drain i (state_by a s) (left_of 16 a)) a f s
whole_err_reaps T laws i w result halt.Spent a f s c q by line tied quiet core stands err d =
    let stop = subst (λ z. ReapsDo z w (length a.keeper.removals) (from_turn a c) q) err d in
    ap (λ (z : Paid). z.left) (left_from i a s c core) ∙ drain_short_reaps laws i w (length a.keeper.removals) a.list (from_turn a c) q (unpacked a.plain.words) s.beside by (begins_from a s w c tied quiet line core stands) stop
whole_err_reaps T laws i w result halt.NoMemory a f s c q by line tied quiet core stands err d = tt

reaps_ok : {U : Type 0} (result : Result U Halt) (y : U) (w : Means) (n : ℕ) (p q : Stand) → result ≡ Ok y → ReapsDo result w n p q → CallsTo w (replicate n reap) p q
reaps_ok result y w n p q ok d = subst (λ z. ReapsDo z w n p q) ok d

pub whole_err_first : {U : Type 0} (T : Type 0) (laws : DeskLaws) (i : Inputs) (w : Means) (reaps : Result U Halt) (y : U) (result : Result Bool Halt) (h : Halt) (a f : Runner) (s : Story) (c : Core) (after : List RequestView) (r q : Stand)
    → GoesBy i w → w.line ≡ 0 → IsTied a s → a.drain.flights.flying ≡ [] → c ≡ core_for 16 a.plain → StandsTo a.keeper c.view
    → reaps ≡ Ok y → ReapsDo reaps w (length a.keeper.removals) (from_turn a c) r → result ≡ Err h → Rounds result w a.list after r q → Drains {T = T} (Err h) (pay_drain i (state_by a s) (left_of 16 a)) a f s
whole_err_first T laws i w reaps y result halt.Spent a f s c after r q by line tied quiet core stands ok d err e =
    let stop = subst (λ (z : Result Bool Halt). Rounds z w a.list after r q) err e in
    ap (λ (z : Paid). z.left) (left_from i a s c core)
    ∙ drain_short_first laws i w (length a.keeper.removals) a.list (from_turn a c) r q (unpacked a.plain.words) s.beside by (begins_from a s w c tied quiet line core stands) (reaps_ok reaps y w (length a.keeper.removals) (from_turn a c) r ok d) stop
whole_err_first T laws i w reaps y result halt.NoMemory a f s c after r q by line tied quiet core stands ok d err e = tt

pub whole_rounds : {U T : Type 0} (laws : DeskLaws) (i : Inputs) (w : Means) (reaps : Result U Halt) (y : U) (first : Result Bool Halt) (any : Bool) (result : Result T Halt) (most : ℕ) (a b : Runner) (s : Story) (c : Core) (mid : List RequestView) (r t : Stand)
    → GoesBy i w → w.line ≡ 0 → IsTied a s → a.drain.flights.flying ≡ [] → c ≡ core_for 16 a.plain → StandsTo a.keeper c.view → b.lanes.items ≡ a.lanes.items → most ≡ length a.list + length i.answers
    → reaps ≡ Ok y → ReapsDo reaps w (length a.keeper.removals) (from_turn a c) r → first ≡ Ok any → Rounds first w a.list mid r t → RoundsDo result w most any mid b.list t (drain_stand b.plain b.drain b.keeper)
    → Drains result (pay_drain i (state_by a s) (left_of 16 a)) a b s
whole_rounds laws i w reaps y first any (Ok x) most a b s c mid r t by line tied quiet core stands lanes many ok d one e rest =
    let n : ℕ = length a.keeper.removals in
    let q : Stand = drain_stand b.plain b.drain b.keeper in
    let p : Stand = from_turn a c in
    let round : RoundTo w any a.list mid r t = subst (λ (z : Result Bool Halt). Rounds z w a.list mid r t) one e in
    let all = drain_goes laws i w n most any a.list mid b.list p r t q (unpacked a.plain.words) s.beside by (begins_from a s w c tied quiet line core stands) many (reaps_ok reaps y w n p r ok d) round rest in
    let here : RoundGoes (pay_drain i (state_by a s) (left_of 16 a)) all.0 a.list b.list (from_turn a (core_for 16 a.plain)) q (unpacked a.plain.words) s.beside =
    subst (λ (z : Core). RoundGoes (pay_drain i (state_in (unpacked a.plain.words) s.beside) z.view.left) all.0 a.list b.list (from_turn a z) q (unpacked a.plain.words) s.beside) core all.1 in
    drain_done i (pay_drain i (state_by a s) (left_of 16 a)) all.0 a b s tied lanes here
whole_rounds laws i w reaps y first any (Err halt.Spent) most a b s c mid r t by line tied quiet core stands lanes many ok d one e rest =
    let n : ℕ = length a.keeper.removals in
    let p : Stand = from_turn a c in
    let round : RoundTo w any a.list mid r t = subst (λ (z : Result Bool Halt). Rounds z w a.list mid r t) one e in
    ap (λ (z : Paid). z.left) (left_from i a s c core)
    ∙ drain_short_rounds laws i w n most any a.list mid p r t (drain_stand b.plain b.drain b.keeper) (unpacked a.plain.words) s.beside by (begins_from a s w c tied quiet line core stands) many (reaps_ok reaps y w n p r ok d) round rest
whole_rounds laws i w reaps y first any (Err halt.NoMemory) most a b s c mid r t by line tied quiet core stands lanes many ok d one e rest = tt
