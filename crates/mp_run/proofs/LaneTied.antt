-- A turn of a lane leaves a run on one thread tied to the plain run.
use Rattle.std.proofs.Common.{[], ◌≡◌, ℕ, ◌+◌, ◌≤◌, ◌<◌, ◌==◌, Bool, true, false, cond, List, ◌∷◌, ◌++◌, map, length, count_by, get_or, set, Some, inl, inr, refl, sym, ap, ◌∙◌, subst, arith, get_or-set_same, get_or-set_other}
use Rattle.std.specs.Prelude.{sum_by}
use Rattle.std.specs.List.{AllByRecursion, flat_map}
use Rattle.std.proofs.lemmas.Bool.{cases_eq}
use Rattle.std.proofs.lemmas.List.{length-set, map-set, map-append}
use Rattle.std.proofs.lemmas.List.Sums.{sum_by-append, sum_by-set}
use Rattle.mp_checks.specs.Marks.{has}
use Rattle.mp_words.specs.declared.entry.RowEntry.{RowEntry}
use Rattle.mp_words.specs.RequestView.{RequestView}
use Rattle.mp_record.specs.declared.event.Event.{Event}
use Rattle.mp_script.specs.declared.script.Script.{Script}
use Rattle.mp_script.specs.declared.script.World.{World}
use Rattle.mp_core.specs.declared.view.View.{View}
use Rattle.mp_core.specs.Memory.{Memory}
use Rattle.mp_core.specs.Seats.{with_keeping}
use Rattle.mp_core.specs.Unpacked.{unpacked}
use Rattle.mp_plain.specs.Lanes.{begun}
use Rattle.mp_plain.specs.Told.{told_core}
use Rattle.mp_desk.specs.DeskView.{DeskView}
use Rattle.mp_desk.specs.Calls.{Stand, IsWaiting}
use Rattle.mp_desk.specs.Desks.{desk_of, stand}
use Rattle.mp_lane.specs.declared.stepped.Stepped.{Stepped}
use Rattle.mp_lane.specs.declared.stepped.Stepped.TheVariants.{Ran, Ended, Spent}
use Rattle.mp_lane.specs.LaneView.{LaneView, wants_of}
use Rattle.mp_lane.specs.Lines.{reads_of}
use Rattle.mp_lane.specs.Steps.{MayRead}
use Rattle.mp_legal.specs.Inputs.{inputs_for}
use Rattle.mp_legal.specs.Numbers.{has_req}
use Rattle.mp_legal.specs.PlainCall.{Inputs}
use Rattle.mp_legal.specs.ToldDesks.{SitsAt, KeepsIn, AreInRun, AreElsewhere, IsInRun, Leads, number_of, once_listed, times, told_events}
use Rattle.mp_legal.specs.ToldKeeper.{KeepsAt}
use Rattle.mp_legal.specs.ToldState.{Beside, state_in}
use Rattle.mp_legal.specs.Units.{Paid, pay_turn}
use Rattle.mp_run.specs.DeskLaws.{DeskLaws}
use Rattle.mp_run.specs.LaneTurns.{submit_in}
use Rattle.mp_run.specs.Runner.{ahead_of, core_for, is_spent, kept_list, lane_at, left_if, left_of, made_by, next_of, no_lane, stand_at, state_by, told_by, total, IsNew, IsSeated, IsTied, StepsFrom, Story, Takes}
use Rattle.mp_run.specs.declared.runner.Runner.{Runner}
use Rattle.mp_run.proofs.Changes.{not_true}
use Rattle.mp_run.proofs.LaneCores.{others_length, own_view, other_view}
use Rattle.mp_run.proofs.LaneParts.{desk_new, distinct_among, each_by, none_new, none_of, one_of, sits_again, sits_beside, two_of}
use Rattle.mp_run.proofs.LaneStarts.{among, often, AtTurn}
use Rattle.mp_run.proofs.LaneTurn.{Turn, left_by_step, part_all, turn_did}

inj_some : (m n : Memory) → Some m ≡ Some n → m ≡ n
inj_some m n e = cc

all_append : {X : Type 0} (P : X → Type 0) (xs ys : List X) → AllByRecursion P xs → AllByRecursion P ys → AllByRecursion P (xs ++ ys)
all_append P [] ys a b = b
all_append P (x ∷ xs) ys a b = (a.0, all_append P xs ys a.1 b)

among_append : (n : ℕ) (xs ys : List RequestView) → among n (xs ++ ys) ≡ among n xs + among n ys
among_append n xs ys = sum_by-append (λ (r : RequestView). cond (r.id == n) 1 0) xs ys

count_append : (of : RowEntry → Bool) (xs ys : List RowEntry) → count_by of (xs ++ ys) ≡ count_by of xs + count_by of ys
count_append of xs ys = sum_by-append (λ (e : RowEntry). cond (of e) 1 0) xs ys

-- how many requests of a number there are, where those of the lane are fewer; where it had one of the number; and where
-- there was none
fewer_all : (a b v w q o l k c g d : ℕ) → b + v ≡ a + w → w + o ≡ q → k ≡ c + o → g + c ≡ l → a + (l + d) ≤ 1 → q ≤ v → b + (k + d) ≤ 1
fewer_all a b v w q o l k c g d e1 e2 e3 e4 most less = omega (arith, e1, e2, e3, e4, most, less)

one_all : (a b v w q o l k c g d : ℕ) → b + v ≡ a + w → w + o ≡ q → k ≡ c + o → g + c ≡ l → a + (l + d) ≤ 1 → q ≤ 1 → 1 ≤ v + g → b + (k + d) ≤ 1
one_all a b v w q o l k c g d e1 e2 e3 e4 most one some = omega (arith, e1, e2, e3, e4, most, one, some)

new_all : (a b v w q o l k c g d : ℕ) → b + v ≡ a + w → w + o ≡ q → k ≡ c + o → g + c ≡ l → a ≡ 0 → l ≡ 0 → d ≡ 0 → q ≤ 1 → b + (k + d) ≤ 1
new_all a b v w q o l k c g d e1 e2 e3 e4 a0 l0 d0 one = omega (arith, e1, e2, e3, e4, a0, l0, d0, one)

-- how many there are, where the lane has those that it was given and new ones
same_all : (a b v w q o l k c g d n : ℕ) → b + v ≡ a + w → w + o ≡ q → k ≡ c + o → g + c ≡ l → q ≡ v + (g + n) → b + (k + d) ≡ a + (l + d) + n
same_all a b v w q o l k c g d n e1 e2 e3 e4 e5 = omega (arith, e1, e2, e3, e4, e5)

-- requests that stood in a run and are still listed
still_in : (x z : Beside) (P : RequestView → Type 0) → ((r : RequestView) → IsInRun x r → P r → IsInRun z r) → (rs : List RequestView) → AllByRecursion (IsInRun x) rs → AllByRecursion P rs → AllByRecursion (IsInRun z) rs
still_in x z P one [] all some = tt
still_in x z P one (r ∷ rs) all some = (one r all.0 some.0, still_in x z P one rs all.1 some.1)

left_is : (stepped : Stepped) (n left : ℕ) (f : Runner) → left ≡ left_of n f → left_by_step stepped left ≡ left_if (is_spent stepped) n f
left_is Ran n left f e = ap Some e
left_is Ended n left f e = ap Some e
left_is Spent n left f e = refl

not_spent : (stepped : Stepped) (n rest : ℕ) (f : Runner) → left_if (is_spent stepped) n f ≡ Some rest → is_spent stepped ≡ false
not_spent Ran n rest f is = refl
not_spent Ended n rest f is = refl
not_spent Spent n rest f is = absurd cc

-- the requests of a desk without those that are to be listed
out_times : (req : ℕ) (d : DeskView) → times req (record d { out = [] }) + among req d.out ≡ times req d
out_times req d = omega arith

pub takes_turn : (laws : DeskLaws) (world : World) (script : Script) (stepped : Stepped) (n : ℕ) (r f : Runner) (s : Story) (w : LaneView) → IsTied r s → n < length r.lanes.items → (lane_at n r).over ≡ false → IsNew (next_of (lane_at n r)) s
    → f.lanes.items ≡ set r.lanes.items n w → desk_of f.drain ≡ desk_of r.drain
    → StepsFrom stepped (reads_of world script.answers) (lane_at n r) w r.list f.list (stand_at n (lane_at n r).desk r.keeper r.plain) (told_core f.plain) f.keeper
    → (t : Story) × Takes n (pay_turn (inputs_for world script) n (state_by r s) (next_of (lane_at n r)) (Some (left_of n r))) (left_if (is_spent stepped) n f) r f s t
takes_turn laws world script stepped n r f s w tied lt over new lanes drain steps = (
  t,
  record {
    tied = record {
      few = omega (arith, tied.few, ap length lanes, length-set r.lanes.items n w);
      lanes = lanes_sit;
      drain = subst (λ (d : DeskView). SitsAt (stand_at 16 d f.keeper f.plain) z.waiting m2 z) (sym drain)
          (other_sits 16 (desk_of r.drain) tied.drain tied.drain_out (λ e. absurd (omega (arith, e, lt, tied.few))) (omega arith) drain_few);
      drain_out = ap (λ (d : DeskView). d.out) drain ∙ tied.drain_out;
      seats = seats2;
      now = omega (arith, same_lane, lt, tied.few);
      stands = kept.stands;
      agrees = subst (λ (k : Memory). KeepsAt f.keeper (state_in k z)) words kept.agrees;
      waiting = sits2.waiting ∙ ap (λ (ns : List ℕ). ns ++ map (λ q. q.id) after.desk.out) turn.st.waiting ∙ sym (map-append (λ (q : RequestView). q.id) left after.desk.out) ∙ ap (map (λ (q : RequestView). q.id)) (sym steps.list);
      listed = subst (λ (rs : List RequestView). AllByRecursion (IsInRun z) rs) (sym steps.list) (all_append (IsInRun z) left after.desk.out kept_in sits2.requests.out);
      waits = subst (λ (rs : List RequestView). AllByRecursion IsWaiting rs) (sym steps.list) (all_append IsWaiting left after.desk.out (part_all IsWaiting r.list left turn.part tied.waits) sits2.sits.waiting);
      once = once2;
      made = made2;
    };
    state = (λ j. state_in (sym words j) z) ∙ sym led.state;
    rows = refl;
    orders = led.orders;
    told = told2;
    paid = turn.goes.left_is ∙ left_is stepped n (told_core f.plain).view.left f (sym (ap (λ (u : View). u.left) view_own));
    lanes = lanes ∙ ap (set r.lanes.items n) (sym own_lane);
    desk = drain;
    others = λ other low apart. ap (λ (u : View). u.left) (view_other other low apart);
    all = λ rest is req. subst (λ (d : DeskView). total req f.lanes.items f.list d ≡ total req r.lanes.items r.list (desk_of r.drain) + often req (submit_in (next_of v))) (sym drain) (total_by req (not_spent stepped n rest f is));
    ahead = λ rest is. turn.ahead (not_spent stepped n rest f is) ∙ ap (λ (u : LaneView). next_of v ∷ ahead_of u) (sym whole_lane);
    reads = λ pages all. subst (λ (u : LaneView). MayRead pages u.rest) (sym whole_lane) (turn.reads pages all);
  },
)
  where
    x : Beside
    x = s.beside

    m : Memory
    m = unpacked r.plain.words

    m2 : Memory
    m2 = unpacked f.plain.words

    v : LaneView
    v = lane_at n r

    after : LaneView
    after = steps.after

    p : Stand
    p = stand_at n v.desk r.keeper r.plain

    q : Stand
    q = stand (told_core f.plain) after.desk f.keeper

    i : Inputs
    i = inputs_for world script

    paid : Paid
    paid = pay_turn i n (state_by r s) (next_of v) (Some (left_of n r))

    seated : IsSeated n v r x
    seated = tied.lanes n lt

    -- the list that isn't given to the lane
    left : List RequestView
    left = kept_list (wants_of v) r.list

    lane_most : (req : ℕ) → times req v.desk ≤ sum_by (λ (u : LaneView). times req u.desk) r.lanes.items
    lane_most req = one_of (λ (u : LaneView). times req u.desk) r.lanes.items no_lane n lt

    list_away : (req : ℕ) → 1 ≤ among req r.list → times req v.desk ≡ 0
    list_away req some = let most = tied.once req in let mine = lane_most req in omega (arith, most, mine, some)

    list_few : (req : ℕ) → among req r.list ≤ 1
    list_few req = let most = tied.once req in omega (arith, most)

    at_turn : AtTurn p r.list m x
    at_turn = record {
      sits = seated.sits;
      out = seated.out;
      keeper = record { stands = steps.stood; agrees = tied.agrees };
      waiting = tied.waiting;
      listed = tied.listed;
      distinct = distinct_among r.list list_few;
      elsewhere = each_by (λ req. times req v.desk ≡ 0) r.list list_away;
    }

    turn : Turn i (next_of v) stepped v after r.list left p q m x
    turn = turn_did laws world script stepped v after r.list p q m x at_turn refl over seated.list seated.listed new steps.does

    y : Beside
    y = turn.st.y

    led : Leads paid.step turn.b.calls p q y.waiting m y
    led = turn.goes.leads

    z : Beside
    z = led.beside

    t : Story
    t = record { beside = z; rows = s.rows ++ paid.step.rows }

    words : led.memory ≡ m2
    words = sym (inj_some m2 led.memory led.sits.at.told)

    sits2 : SitsAt q y.waiting m2 z
    sits2 = subst (λ (k : Memory). SitsAt q y.waiting k z) words led.sits

    kept : KeepsIn q led.memory z
    kept = led.keeper (record { stands = steps.stood; agrees = laws.keeper_still r.keeper m x y tied.agrees (ap (λ (b : Beside). b.removals) turn.st.is) (ap (λ (b : Beside). b.flips) turn.st.is) })

    -- what the lanes know at their turns

    same_lane : (told_core f.plain).lane ≡ n
    same_lane = led.pass.lane

    seats2 : length (told_core f.plain).others ≡ 17
    seats2 = ap (λ (vs : List View). length vs) led.pass.others ∙ others_length (begun (told_core r.plain).view.keeping.start) n (told_core r.plain) m ∙ tied.seats

    view_own : (core_for n f.plain).view ≡ (told_core f.plain).view
    view_own = own_view (begun (told_core f.plain).view.keeping.start) n (told_core f.plain) m2 (sym same_lane) (omega (arith, same_lane, lt, tied.few, seats2))

    view_other : (other : ℕ) → other < 17 → (other ≡ n → ⊥) → (core_for other f.plain).view ≡ with_keeping (told_core f.plain).view.keeping (core_for other r.plain).view
    view_other other low apart =
        other_view (begun (told_core r.plain).view.keeping.start) (begun (told_core f.plain).view.keeping.start) n other (told_core r.plain) (told_core f.plain) m m2 led.pass.others same_lane apart (omega (arith, low, tied.seats))

    -- the other desks

    away : (d : DeskView) → AreInRun x d → ((req : ℕ) → times req v.desk + (among req r.list + times req d) ≤ 1) → AreElsewhere turn.b.calls d
    away d among_run few req on =
        elim (turn.st.about req on) [
          | inl some ↦ let most = few req in let parts = turn.sum req in omega (arith, most, parts, some)
          | inr mine ↦ desk_new x d req (new req mine) among_run
        ]

    other_sits : (k : ℕ) (d : DeskView) → SitsAt (stand_at k d r.keeper r.plain) x.waiting m x → d.out ≡ [] → (k ≡ n → ⊥) → k < 17 → ((req : ℕ) → times req v.desk + (among req r.list + times req d) ≤ 1)
        → SitsAt (stand_at k d f.keeper f.plain) z.waiting m2 z
    other_sits k d h none apart low few =
        let begins : SitsAt (stand_at k d r.keeper r.plain) y.waiting m y = sits_beside (stand_at k d r.keeper r.plain) x.waiting m x y (submit_in (next_of v)) h none turn.st.is new turn.st.others turn.st.sits.noted in
        subst (λ (j : Memory). SitsAt (stand_at k d f.keeper f.plain) z.waiting j z) words
        (laws.others_sit paid.step turn.b.calls p q (stand_at k d r.keeper r.plain) (stand_at k d f.keeper f.plain) y.waiting y.waiting m y led begins apart none (away d h.requests few)
        (record { lane = refl; told = refl; inside = ap (λ (u : View). u.inside) (view_other k low apart); flights = ap (λ (u : View). u.flights) (view_other k low apart); desk = refl }))

    drain_few : (req : ℕ) → times req v.desk + (among req r.list + times req (desk_of r.drain)) ≤ 1
    drain_few req = let most = tied.once req in let mine = lane_most req in omega (arith, most, mine)

    lane_few : (k : ℕ) → k < length r.lanes.items → (k ≡ n → ⊥) → (req : ℕ) → times req v.desk + (among req r.list + times req (lane_at k r).desk) ≤ 1
    lane_few k low apart req =
        let most = tied.once req in
        let two = two_of (λ (u : LaneView). times req u.desk) r.lanes.items no_lane n k lt low (λ e. apart (sym e)) in
        omega (arith, most, two)

    -- the lane itself

    own_desk : w.desk ≡ record (after.desk) { out = [] }
    own_desk = ap (λ (u : LaneView). u.desk) steps.lane

    own_lane : lane_at n f ≡ w
    own_lane = ap (λ (ls : List LaneView). get_or ls n no_lane) lanes ∙ get_or-set_same r.lanes.items n w no_lane lt

    whole_lane : lane_at n f ≡ record after { desk = record (after.desk) { out = [] } }
    whole_lane = own_lane ∙ steps.lane

    given_list : SitsAt (once_listed q) z.waiting m2 z
    given_list = laws.list_given q y.waiting m2 z sits2

    own_sits : SitsAt (stand_at n (record (after.desk) { out = [] }) f.keeper f.plain) z.waiting m2 z
    own_sits = sits_again (once_listed q) z.waiting m2 z (core_for n f.plain) given_list (sym same_lane) refl (ap (λ (u : View). u.inside) view_own) (ap (λ (u : View). u.flights) view_own)

    own_seated : IsSeated n w f z
    own_seated = record {
      id = ap (λ (u : LaneView). u.id) steps.lane ∙ turn.id ∙ seated.id;
      sits = subst (λ (d : DeskView). SitsAt (stand_at n d f.keeper f.plain) z.waiting m2 z) (sym own_desk) own_sits;
      out = ap (λ (d : DeskView). d.out) own_desk;
      list = ap (λ (u : LaneView). u.list) steps.lane ∙ turn.list;
      listed = ap (λ (u : LaneView). u.listed) steps.lane ∙ turn.listed;
    }

    lanes_sit : (k : ℕ) → k < length f.lanes.items → IsSeated k (lane_at k f) f z
    lanes_sit k low =
        let below : k < length r.lanes.items = omega (arith, low, ap length lanes, length-set r.lanes.items n w) in
        elim (cases_eq k n) [
          | inl is ↦ subst (λ (j : ℕ). IsSeated j (lane_at j f) f z) (sym is) (subst (λ (u : LaneView). IsSeated n u f z) (sym own_lane) own_seated)
          | inr apart ↦ let was : IsSeated k (lane_at k r) r x = tied.lanes k below in
              let same : lane_at k r ≡ lane_at k f = sym (ap (λ (ls : List LaneView). get_or ls k no_lane) lanes ∙ get_or-set_other r.lanes.items n k w no_lane apart) in
              let still : IsSeated k (lane_at k r) f z = record { id = was.id; sits = other_sits k (lane_at k r).desk was.sits was.out apart (omega (arith, below, tied.few)) (lane_few k below apart); out = was.out; list = was.list; listed = was.listed } in
              subst (λ (u : LaneView). IsSeated k u f z) same still
        ]

    -- the list

    still_listed : (req : RequestView) → IsInRun x req → 1 ≤ among req.id left → IsInRun z req
    still_listed req there some =
        let others = turn.st.others req.id (not_true (has (submit_in (next_of v)) req.id) (λ on. let off = new req.id on in let is = there.there in cc)) in
        let apart : has (flat_map number_of turn.b.calls) req.id ≡ false = not_true (has (flat_map number_of turn.b.calls) req.id) (λ on. elim (turn.st.about req.id on) [
          | inl more ↦ let most = tied.once req.id in let mine = lane_most req.id in let parts = turn.sum req.id in absurd (omega (arith, most, mine, parts, more, some))
          | inr mine ↦ let off = new req.id mine in let is = there.there in cc
        ]) in
        let kept_so = led.requests req.id apart in
        record { there = kept_so.there ∙ others.there ∙ there.there; told = kept_so.told ∙ others.told ∙ there.told; read = there.read ∙ sym others.read ∙ sym kept_so.read }

    kept_in : AllByRecursion (IsInRun z) left
    kept_in = still_in x z (λ req. 1 ≤ among req.id left) still_listed left (part_all (IsInRun x) r.list left turn.part tied.listed) (each_by (λ req. 1 ≤ among req left) left (λ req some. some))

    -- no request is in two places

    set_times : (req : ℕ) → sum_by (λ (u : LaneView). times req u.desk) f.lanes.items + times req v.desk ≡ sum_by (λ (u : LaneView). times req u.desk) r.lanes.items + times req w.desk
    set_times req = ap (λ (ls : List LaneView). sum_by (λ (u : LaneView). times req u.desk) ls + times req v.desk) lanes ∙ sum_by-set (λ (u : LaneView). times req u.desk) r.lanes.items n w no_lane lt

    own_times : (req : ℕ) → times req w.desk + among req after.desk.out ≡ times req after.desk
    own_times req = ap (λ (d : DeskView). times req d + among req after.desk.out) own_desk ∙ out_times req after.desk

    list_times : (req : ℕ) → among req f.list ≡ among req left + among req after.desk.out
    list_times req = ap (among req) steps.list ∙ among_append req left after.desk.out

    lanes_new : (req : ℕ) → has_req req x.requests ≡ false → sum_by (λ (u : LaneView). times req u.desk) r.lanes.items ≡ 0
    lanes_new req off = none_of (λ (u : LaneView). times req u.desk) r.lanes.items no_lane (λ k low. desk_new x (lane_at k r).desk req off (tied.lanes k low).sits.requests)

    once_by : (req : ℕ) (b : Bool) → has (flat_map number_of turn.b.calls) req ≡ b → sum_by (λ (u : LaneView). times req u.desk) f.lanes.items + (among req f.list + times req (desk_of r.drain)) ≤ 1
    once_by req false off =
        fewer_all (sum_by (λ (u : LaneView). times req u.desk) r.lanes.items) (sum_by (λ (u : LaneView). times req u.desk) f.lanes.items) (times req v.desk) (times req w.desk) (times req after.desk) (among req after.desk.out) (among req r.list) (among req f.list) (among req left) (among req turn.given) (times req (desk_of r.drain))
        (set_times req) (own_times req) (list_times req) (turn.sum req) (tied.once req) (led.desk req off)
    once_by req true on =
        elim (turn.st.about req on) [
          | inl some ↦ one_all (sum_by (λ (u : LaneView). times req u.desk) r.lanes.items) (sum_by (λ (u : LaneView). times req u.desk) f.lanes.items) (times req v.desk) (times req w.desk) (times req after.desk) (among req after.desk.out) (among req r.list) (among req f.list) (among req left) (among req turn.given) (times req (desk_of r.drain))
              (set_times req) (own_times req) (list_times req) (turn.sum req) (tied.once req) (led.sits.requests.once req) some
          | inr mine ↦ let off : has_req req x.requests ≡ false = new req mine in
              new_all (sum_by (λ (u : LaneView). times req u.desk) r.lanes.items) (sum_by (λ (u : LaneView). times req u.desk) f.lanes.items) (times req v.desk) (times req w.desk) (times req after.desk) (among req after.desk.out) (among req r.list) (among req f.list) (among req left) (among req turn.given) (times req (desk_of r.drain))
              (set_times req) (own_times req) (list_times req) (turn.sum req) (lanes_new req off) (none_new (λ (u : RequestView). u) x req off r.list tied.listed) (desk_new x (desk_of r.drain) req off tied.drain.requests) (led.sits.requests.once req)
        ]

    once2 : (req : ℕ) → total req f.lanes.items f.list (desk_of f.drain) ≤ 1
    once2 req = subst (λ (d : DeskView). total req f.lanes.items f.list d ≤ 1) (sym drain) (once_by req (has (flat_map number_of turn.b.calls) req) refl)

    -- no request is lost

    total_by : (req : ℕ) → is_spent stepped ≡ false → sum_by (λ (u : LaneView). times req u.desk) f.lanes.items + (among req f.list + times req (desk_of r.drain)) ≡ total req r.lanes.items r.list (desk_of r.drain) + often req (submit_in (next_of v))
    total_by req run =
        same_all (sum_by (λ (u : LaneView). times req u.desk) r.lanes.items) (sum_by (λ (u : LaneView). times req u.desk) f.lanes.items) (times req v.desk) (times req w.desk) (times req after.desk) (among req after.desk.out) (among req r.list) (among req f.list) (among req left) (among req turn.given) (times req (desk_of r.drain)) (often req (submit_in (next_of v)))
        (set_times req) (own_times req) (list_times req) (turn.sum req) (turn.keeps run req ∙ ap (λ (k : ℕ). times req v.desk + k) (turn.st.submits req))

    -- the entries

    own_rows : w.desk.rows ≡ v.desk.rows ++ paid.step.rows
    own_rows = ap (λ (d : DeskView). d.rows) own_desk ∙ led.rows

    made2 : (of : RowEntry → Bool) → count_by of (s.rows ++ paid.step.rows) ≡ made_by of f.lanes.items (desk_of f.drain)
    made2 of =
        let sets : sum_by (λ (u : LaneView). count_by of u.desk.rows) f.lanes.items + count_by of v.desk.rows ≡ sum_by (λ (u : LaneView). count_by of u.desk.rows) r.lanes.items + count_by of w.desk.rows =
        ap (λ (ls : List LaneView). sum_by (λ (u : LaneView). count_by of u.desk.rows) ls + count_by of v.desk.rows) lanes ∙ sum_by-set (λ (u : LaneView). count_by of u.desk.rows) r.lanes.items n w no_lane lt in
        let own = ap (count_by of) own_rows ∙ count_append of v.desk.rows paid.step.rows in
        let same : count_by of (desk_of f.drain).rows ≡ count_by of (desk_of r.drain).rows = ap (λ (d : DeskView). count_by of d.rows) drain in
        let was = tied.made of in
        let all = count_append of s.rows paid.step.rows in
        sums (count_by of (s.rows ++ paid.step.rows)) (count_by of s.rows) (count_by of paid.step.rows) (sum_by (λ (u : LaneView). count_by of u.desk.rows) r.lanes.items) (sum_by (λ (u : LaneView). count_by of u.desk.rows) f.lanes.items) (count_by of v.desk.rows) (count_by of w.desk.rows) (count_by of (desk_of r.drain).rows) (count_by of (desk_of f.drain).rows)
        all was sets own same
      where
        sums : (c a b l k v w d e : ℕ) → c ≡ a + b → a ≡ l + d → k + v ≡ l + w → w ≡ v + b → e ≡ d → c ≡ k + e
        sums c a b l k v w d e e1 e2 e3 e4 e5 = omega (arith, e1, e2, e3, e4, e5)

    -- what is told

    told_own : told_events w.desk.events ≡ told_events v.desk.events ++ paid.step.events
    told_own = ap (λ (d : DeskView). told_events d.events) own_desk ∙ led.events

    told2 : told_by f ≡ set (told_by r) n (told_events v.desk.events ++ paid.step.events)
    told2 =
        ap (λ (ls : List LaneView). map (λ (u : LaneView). told_events u.desk.events) ls) lanes ∙ map-set (λ (u : LaneView). told_events u.desk.events) r.lanes.items n w
        ∙ ap (λ (es : List Event). set (told_by r) n es) told_own
