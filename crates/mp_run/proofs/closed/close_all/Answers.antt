use Rattle.std.proofs.Common.{◌≡◌, true, map, List, sym, ap, subst}
use Rattle.std.specs.List.{flat_map, AllByRecursion}
use Rattle.mp_record.specs.RunView.{events_of}
use Rattle.mp_lane.specs.LaneView.{LaneView}
use Rattle.mp_run.specs.Closing.{ended_at, notes_at, rows_at}
use Rattle.mp_run.proofs.ClosedLanes.{flat_on, map_on}
use Rattle.mp_run.proofs.closed.close_all.Goals as goal

pub loop-lane-init : goal.loop-lane-init
loop-lane-init c =
    let all = c.into_iter-lane-iterator.ensures.into_iter_gives.0 in
    (subst (λ (vs : List LaneView). AllByRecursion (λ v. v.over ≡ true) vs) (sym all) c.requires.over, rw c.new.ensures.items (ap (map notes_at) all), rw c.new-2.ensures.items (ap (flat_map rows_at) all), rw c.new-3.ensures.items (ap (flat_map ended_at) all))

pub loop-lane-preserved : goal.loop-lane-preserved
loop-lane-preserved c =
    let rest = c.loop-lane.lane-iterator.rest.items in
    let next = c.next.new.self.rest.items in
    let is = c.in-Some.ensures.steps.0 in
    let h = c.loop-lane.invariant in (
      (subst (λ (vs : List LaneView). AllByRecursion (λ v. v.over ≡ true) vs) is h.0).1,
      map_on notes_at (map events_of c.loop-lane.closed.notes.items) (map events_of c.close.new.closed.notes.items) (map notes_at c.args.lanes.items) c.in-Some.lane rest next is h.1 c.in_ok-close.ensures.notes,
      flat_on rows_at c.loop-lane.closed.rows.items c.close.new.closed.rows.items (flat_map rows_at c.args.lanes.items) c.in-Some.lane rest next is h.2 c.in_ok-close.ensures.rows,
      flat_on ended_at c.loop-lane.closed.ended.items c.close.new.closed.ended.items (flat_map ended_at c.args.lanes.items) c.in-Some.lane rest next is h.3 c.in_ok-close.ensures.ended,
    )
