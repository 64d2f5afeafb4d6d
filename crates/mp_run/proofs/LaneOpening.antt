-- The lanes with which a run begins.
use Rattle.std.proofs.Common.{[], ◌≡◌, ℕ, zero, suc, ◌+◌, ◌<◌, ◌≤◌, List, ◌∷◌, length, map, replicate, count_by, get_or, refl, sym, ap, ◌∙◌, subst, arith, nat_lt}
use Rattle.std.specs.List.{AllByRecursion, enumerate_from, list_all}
use Rattle.std.proofs.lemmas.List.{length-map}
use Rattle.std.proofs.lemmas.List.FromFn.{length-enumerate_from}
use Rattle.atomic_table.specs.Seated.{TableId}
use Rattle.mp_words.specs.declared.order.Order.{Order}
use Rattle.mp_words.specs.Order.{slots_of}
use Rattle.mp_words.specs.RequestView.{RequestView}
use Rattle.mp_script.specs.declared.script.LanePlan.{LanePlan}
use Rattle.mp_core.specs.declared.view.View.{View}
use Rattle.mp_core.specs.Core.{Core}
use Rattle.mp_core.specs.Memory.{Memory, depth_at, no_side, side_at}
use Rattle.mp_core.specs.Seats.{turned}
use Rattle.mp_core.specs.Unpacked.{unpacked}
use Rattle.mp_keep.specs.declared.removal.Removal.{Removal}
use Rattle.mp_keep.specs.Keeper.{StandsTo, IsNew, AtStart, owner_of}
use Rattle.mp_plain.specs.declared.ledger.Opening.{Opening}
use Rattle.mp_plain.specs.Lanes.{begun, lane_begun}
use Rattle.mp_plain.specs.Told.{told_core, core_begun}
use Rattle.mp_desk.specs.DeskView.{DeskView}
use Rattle.mp_desk.specs.Calls.{IsWaiting}
use Rattle.mp_desk.specs.Desks.{desk_of}
use Rattle.mp_lane.specs.LaneView.{LaneView}
use Rattle.mp_legal.specs.Opening.{opening}
use Rattle.mp_legal.specs.PlainCall.{Inputs}
use Rattle.mp_legal.specs.ToldDesks.{IsInRun, SitsAt, times}
use Rattle.mp_legal.specs.ToldKeeper.{KeepsAt, is_at_rest}
use Rattle.mp_legal.specs.ToldState.{IsAt, state_in}
use Rattle.mp_run.specs.declared.runner.Runner.{Runner}
use Rattle.mp_run.specs.Beginning.{empty_desk, first_beside, first_lane, first_story}
use Rattle.mp_run.specs.FirstMemory.{memory_of}
use Rattle.mp_run.specs.Runner.{total, core_for, lane_at, left_of, no_lane, stand_at, state_by, IsSeated, IsTied}
use Rattle.mp_run.proofs.FirstMemory.{IsOpened, rows_length, opening_within, same}
use Rattle.mp_run.proofs.LaneParts.{none_of}
use Rattle.mp_run.proofs.LaneStarts.{among}
use Rattle.mp_run.proofs.Starts.{NewStands, at_start, by_none, first_view}

-- What a run begins with.
pub record Begins (i : Inputs) (o : Opening) (plans : List LanePlan) (r : Runner) : Type 0 where
  pub home : TableId
  pub opened : IsOpened i
  pub core : told_core r.plain ≡ core_begun home o
  pub law : NewStands
  pub keeper : IsNew (opening i).order (map owner_of (opening i).rows) r.keeper
  pub words : r.plain.words ≡ o.words
  pub says : unpacked o.words ≡ memory_of (opening i)
  pub few : length plans ≤ 16
  pub lanes : r.lanes.items ≡ map first_lane (enumerate_from 0 plans)
  pub list : r.list ≡ []
  pub drain : desk_of r.drain ≡ empty_desk

memory_is : (i : Inputs) (o : Opening) (plans : List LanePlan) (r : Runner) → Begins i o plans r → unpacked r.plain.words ≡ memory_of (opening i)
memory_is i o plans r s = ap unpacked s.words ∙ s.says

view_is : (i : Inputs) (o : Opening) (plans : List LanePlan) (r : Runner) → Begins i o plans r → (lane : ℕ) → lane < 17 → (core_for lane r.plain).view ≡ lane_begun o
view_is i o plans r s lane lt = ap (λ (c : Core). (turned (begun c.view.keeping.start) lane c (unpacked r.plain.words)).view) s.core ∙ first_view s.home o (unpacked r.plain.words) lane lt

pub begins_left : (i : Inputs) (o : Opening) (plans : List LanePlan) (r : Runner) → Begins i o plans r → (lane : ℕ) → lane < 17 → left_of lane r ≡ o.allowance
begins_left i o plans r s lane lt = ap (λ (v : View). v.left) (view_is i o plans r s lane lt)

pub begins_state : (i : Inputs) (o : Opening) (plans : List LanePlan) (r : Runner) → Begins i o plans r → state_by r first_story ≡ opening i
begins_state i o plans r s = ap (λ (w : Memory). state_in w first_beside) (memory_is i o plans r s) ∙ (λ j. record (opening i) { lasts = sym (by_none (opening i).order.policy) j })

begins_at : (i : Inputs) (o : Opening) (plans : List LanePlan) (r : Runner) → Begins i o plans r → (lane : ℕ) → lane < 17 → IsAt (core_for lane r.plain) (unpacked r.plain.words) first_beside
begins_at i o plans r s lane lt =
    let m = memory_is i o plans r s in
    let view = view_is i o plans r s lane lt in
    record {
      told = refl;
      rows = ap (λ (w : Memory). length w.rows) m ∙ rows_length i;
      depths = ap (λ (w : Memory). length w.depths) m;
      currents = ap (λ (w : Memory). length w.currents) m;
      lanes = refl;
      lane = lt;
      closed = ap (λ (v : View). v.inside) view;
      flights = ap (λ (v : View). v.flights) view ∙ sym (same 17 lane []);
      counted = λ slot. ap (λ (w : Memory). depth_at w slot) m ∙ same 15 slot 0;
    }

begins_sits : (i : Inputs) (o : Opening) (plans : List LanePlan) (r : Runner) → Begins i o plans r → (lane : ℕ) → lane < 17 → SitsAt (stand_at lane empty_desk r.keeper r.plain) [] (unpacked r.plain.words) first_beside
begins_sits i o plans r s lane lt =
    let m = memory_is i o plans r s in
    let view = view_is i o plans r s lane lt in
    record {
      at = begins_at i o plans r s lane lt;
      sits = record { closed = ap (λ (v : View). v.inside) view; flights = ap (λ (v : View). v.flights) view; aloft = tt; waiting = tt };
      own = tt;
      requests = record { flying = tt; out = tt; ended = tt; once = λ req. omega arith };
      waiting = refl;
      nobody = λ side. ap (λ (w : Memory). (side_at w side).inside) m ∙ inside side;
      noted = λ req off. refl;
    }
  where
    inside : (side : ℕ) → (get_or (replicate 2 no_side) side no_side).inside ≡ 0
    inside zero = refl
    inside (suc zero) = refl
    inside (suc (suc side)) = refl

-- each lane is its plan's
first_at : (k n : ℕ) (plans : List LanePlan) → n < length plans → (plan : LanePlan) × (get_or (map first_lane (enumerate_from k plans)) n no_lane ≡ first_lane (k + n, plan))
first_at k n [] lt = absurd (omega (arith, lt))
first_at k zero (p ∷ plans) lt = let e : k ≡ k + 0 = omega arith in (p, ap (λ j. first_lane (j, p)) e)
first_at k (suc n) (p ∷ plans) lt =
    let more = first_at (k + 1) n plans (omega (arith, lt)) in
    let e : k + 1 + n ≡ k + suc n = omega arith in
    (more.0, more.1 ∙ ap (λ j. first_lane (j, more.0)) e)

pub lanes_count : (plans : List LanePlan) → length (map first_lane (enumerate_from 0 plans)) ≡ length plans
lanes_count plans = length-map (enumerate_from 0 plans) first_lane ∙ length-enumerate_from 0 plans

begins_stands : (i : Inputs) (o : Opening) (plans : List LanePlan) (r : Runner) → Begins i o plans r → StandsTo r.keeper (told_core r.plain).view
begins_stands i o plans r s =
    let order : Order = (opening i).order in
    let owners = map owner_of (opening i).rows in
    s.law order owners r.keeper (told_core r.plain).view s.keeper (subst (λ (c : Core). AtStart order owners c.view) (sym s.core) (at_start i s.home o s.opened s.says))

begins_keeps : (i : Inputs) (o : Opening) (plans : List LanePlan) (r : Runner) → Begins i o plans r → KeepsAt r.keeper (state_by r first_story)
begins_keeps i o plans r s = subst (KeepsAt r.keeper) (sym (begins_state i o plans r s)) (record {
  order = sym s.keeper.order_is;
  within = ap (λ (p : Order). list_all (λ slot. nat_lt slot 15) (slots_of p)) s.keeper.order_is ∙ opening_within i s.opened;
  owners = s.keeper.owners_are;
  removals = sym (ap (map (λ (q : Removal). q.slot)) s.keeper.removals);
  rest = ap (list_all (λ (q : Removal). is_at_rest q.stage)) s.keeper.removals;
  flips = sym s.keeper.flips;
})

pub begins_tied : (i : Inputs) (o : Opening) (plans : List LanePlan) (r : Runner) → Begins i o plans r → IsTied r first_story
begins_tied i o plans r s = record {
  few = omega (arith, count, s.few);
  lanes = seated;
  drain = subst (λ (d : DeskView). SitsAt (stand_at 16 d r.keeper r.plain) [] (unpacked r.plain.words) first_beside) (sym s.drain) (begins_sits i o plans r s 16 (omega arith));
  drain_out = ap (λ (d : DeskView). d.out) s.drain;
  seats = ap (λ (c : Core). length c.others) s.core;
  now = subst (λ n. n < 17) (sym (ap (λ (c : Core). c.lane) s.core)) (omega arith);
  stands = begins_stands i o plans r s;
  agrees = begins_keeps i o plans r s;
  waiting = ap (map (λ q. q.id)) (sym s.list);
  listed = subst (λ (rs : List RequestView). AllByRecursion (IsInRun first_beside) rs) (sym s.list) tt;
  waits = subst (λ (rs : List RequestView). AllByRecursion IsWaiting rs) (sym s.list) tt;
  once = λ req.
      let none = none_of (λ (v : LaneView). times req v.desk) r.lanes.items no_lane (λ k lt. ap (times req) (desk_at k lt)) in
      let list = ap (among req) s.list in
      let drain = ap (times req) s.drain in
      omega (arith, none, list, drain);
  made = λ of.
      let none = none_of (λ (v : LaneView). count_by of v.desk.rows) r.lanes.items no_lane (λ k lt. ap (λ (d : DeskView). count_by of d.rows) (desk_at k lt)) in
      let drain = ap (λ (d : DeskView). count_by of d.rows) s.drain in
      omega (arith, none, drain);
}
  where
    count : length r.lanes.items ≡ length plans
    count = ap length s.lanes ∙ lanes_count plans

    lane_is : (n : ℕ) → n < length r.lanes.items → (plan : LanePlan) × (lane_at n r ≡ first_lane (n, plan))
    lane_is n lt =
        let it = first_at 0 n plans (omega (arith, lt, count)) in
        let zero_is : 0 + n ≡ n = omega arith in
        (it.0, ap (λ (ls : List LaneView). get_or ls n no_lane) s.lanes ∙ it.1 ∙ ap (λ j. first_lane (j, it.0)) zero_is)

    desk_at : (n : ℕ) → n < length r.lanes.items → (lane_at n r).desk ≡ empty_desk
    desk_at n lt = ap (λ (v : LaneView). v.desk) (lane_is n lt).1

    seated : (n : ℕ) → n < length r.lanes.items → IsSeated n (lane_at n r) r first_beside
    seated n lt =
        let it = lane_is n lt in
        let one : IsSeated n (first_lane (n, it.0)) r first_beside = record { id = refl; sits = begins_sits i o plans r s n (omega (arith, lt, count, s.few)); out = refl; list = refl; listed = refl } in
        subst (λ (v : LaneView). IsSeated n v r first_beside) (sym it.1) one

-- no request is anywhere yet
pub begins_empty : (i : Inputs) (o : Opening) (plans : List LanePlan) (r : Runner) → Begins i o plans r → (req : ℕ) → total req r.lanes.items r.list (desk_of r.drain) ≡ 0
begins_empty i o plans r s req =
    let none = none_of (λ (v : LaneView). times req v.desk) r.lanes.items no_lane (λ k lt. ap (times req) (desk_at k lt)) in
    let list = ap (among req) s.list in
    let drain = ap (times req) s.drain in
    omega (arith, none, list, drain)
  where
    desk_at : (n : ℕ) → n < length r.lanes.items → (lane_at n r).desk ≡ empty_desk
    desk_at n lt =
        let it = first_at 0 n plans (omega (arith, lt, ap length s.lanes, lanes_count plans)) in
        ap (λ (ls : List LaneView). (get_or ls n no_lane).desk) s.lanes ∙ ap (λ (v : LaneView). v.desk) it.1
