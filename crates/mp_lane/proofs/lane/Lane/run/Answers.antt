use Rattle.std.proofs.Common.{◌+◌, Bool, drop, sym, ap, ◌∙◌}
use Rattle.mp_desk.specs.Desks.{desk_of}
use Rattle.mp_lane.specs.LaneView.{LaneView}
use Rattle.mp_lane.specs.Lines.{reads_of}
use Rattle.mp_lane.proofs.Rests.{next_got}
use Rattle.mp_lane.proofs.Stepping.{runs_done, runs_failed}
use Rattle.mp_lane.proofs.lane.Lane.run.Goals as goal

pub returns-in-Ok-run_line-clause-runs : goal.returns-in-Ok-run_line-clause-runs
returns-in-Ok-run_line-clause-runs g c k =
    let s = c.self.inside in
    let got = c.in-Some.ensures.lookup in
    let v : LaneView = record { id = s.id; keeper = s.plan.keeper; rest = drop s.next s.plan.lines; list = s.list.items; listed = s.listed; over = s.over; desk = desk_of s.desk } in
    runs_done c.run_line.result c.in-Ok-run_line.field-0 (reads_of c.args.world.now c.args.answers.now) v c.args.self.now c.in-Some.numbered.now (drop (s.next + 1) c.as_slice.result.now) c.replace-list.result.items (g.S.Steps.core c.args.steps.now) (g.S.Steps.core c.run_line.new.steps) (desk_of c.run_line.new.desk) k c.self.view_is
    (ap (drop s.next) (sym c.as_slice.ensures) ∙ next_got s.next c.as_slice.result.now c.in-Some.numbered.now got.3.0 got.1) (ap (λ v. v.items) c.replace-list.ensures.value) c.in-Ok-run_line.is (c.run_line.ensures.runs k)

pub returns-clause-runs : goal.returns-clause-runs
returns-clause-runs g c k =
    let s = c.self.inside in
    let got = c.in-Some.ensures.lookup in
    let v : LaneView = record { id = s.id; keeper = s.plan.keeper; rest = drop s.next s.plan.lines; list = s.list.items; listed = s.listed; over = s.over; desk = desk_of s.desk } in
    runs_failed Bool c.run_line.result c.in-Err-run_line.halt (reads_of c.args.world.now c.args.answers.now) v c.args.self.now c.in-Some.numbered.now (drop (s.next + 1) c.as_slice.result.now) c.replace-list.result.items (g.S.Steps.core c.args.steps.now) (g.S.Steps.core c.run_line.new.steps) (desk_of c.run_line.new.desk) k c.self.view_is
    (ap (drop s.next) (sym c.as_slice.ensures) ∙ next_got s.next c.as_slice.result.now c.in-Some.numbered.now got.3.0 got.1) (ap (λ v. v.items) c.replace-list.ensures.value) c.in-Err-run_line.is (c.run_line.ensures.runs k)
