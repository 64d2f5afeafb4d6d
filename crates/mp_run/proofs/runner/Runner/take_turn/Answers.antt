use Rattle.std.proofs.Common.{◌≡◌, ℕ, ap, ◌∙◌, subst, get_or, set, refl, arith}
use Rattle.std.proofs.lemmas.List.{get_or_default}
use Rattle.mp_lane.specs.LaneView.{LaneView}
use Rattle.mp_lane.specs.Lines.{reads_of}
use Rattle.mp_plain.specs.Told.{told_core}
use Rattle.mp_run.specs.Runner.{lane_at, no_lane, stand_at, StepsFrom}
use Rattle.mp_run.specs.declared.runner.Runner.{Runner}
use Rattle.mp_run.proofs.LaneTied.{takes_turn}
use Rattle.mp_run.proofs.runner.Runner.take_turn.Goals as goal

pub returns-clause-takes : goal.returns-clause-takes
returns-clause-takes c s tied new =
    let r : Runner = c.args.self.now in
    let n : ℕ = c.args.lane in
    let w : LaneView = c.step_lane.new.at in
    let at : c.get.result ≡ n = c.get.ensures.number in
    let old : LaneView = c.index_mut-at.result.now in
    let v : old ≡ lane_at n r = c.index_mut-at.ensures.value ∙ get_or_default r.lanes.items c.get.result old no_lane (omega (arith, at, c.requires.lane)) ∙ ap (λ k. get_or r.lanes.items k no_lane) at in
    takes_turn c.desk_laws.ensures c.args.world.now c.args.script.now c.in_ok-stepped.stepped n r _ s w tied c.requires.lane c.requires.goes_on new (ap (λ k. set r.lanes.items k w) at) refl
    (subst (λ (u : LaneView). StepsFrom c.in_ok-stepped.stepped (reads_of c.args.world.now c.args.script.now.answers) u w r.list c.step_lane.new.list (stand_at n u.desk r.keeper r.plain) (told_core c.step_lane.new.plain) c.step_lane.new.keeper) v c.in_ok-stepped.ensures.steps)
