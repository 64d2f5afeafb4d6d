use Rattle.std.proofs.Common.{◌≡◌, sym, ap, subst}
use Rattle.std.specs.Prelude.{IfOk}
use Rattle.mp_desk.specs.Desks.{stand}
use Rattle.mp_lane.specs.Lines.{reads_of}
use Rattle.mp_lane.specs.Steps.{has_line}
use Rattle.mp_lane.proofs.StepGains.{step_gains, step_uses}
use Rattle.mp_lane.proofs.Stepping.{breaks_to, settles_to}
use Rattle.mp_lane.proofs.Weighs.{settles_weigh}
use Rattle.mp_lane.proofs.lane.Lane.step.Goals as goal

pub settle-requires-clause-list : goal.settle-requires-clause-list
settle-requires-clause-list g c = ap (λ v. v.list) c.run-ran.ensures.lane

pub settle-requires-clause-ran : goal.settle-requires-clause-ran
settle-requires-clause-ran g c = subst (λ v. IfOk c.run-ran.result (λ ran. ran ≡ has_line v.rest)) (sym c.run-ran.ensures.lane) c.run-ran.ensures.ran

pub returns-clause-does : goal.returns-clause-does
returns-clause-does g c k =
    settles_to c.run-ran.result c.settle.result (reads_of c.args.world.now c.args.answers.now) c.args.self.now c.run-ran.new.self c.settle.new.self (stand (g.S.Steps.core c.args.steps.now) c.args.self.now.desk k) (g.S.Steps.core c.run-ran.new.steps) (g.S.Steps.core c.settle.new.steps) k
    c.run-ran.ensures.lane c.run-ran.ensures.ran (c.run-ran.ensures.runs k) c.settle.ensures.settles

pub returns-clause-breaks : goal.returns-clause-breaks
returns-clause-breaks g c k =
    breaks_to c.run-ran.result c.settle.result (reads_of c.args.world.now c.args.answers.now) c.args.self.now c.run-ran.new.self c.settle.new.self (stand (g.S.Steps.core c.args.steps.now) c.args.self.now.desk k) (g.S.Steps.core c.run-ran.new.steps) (g.S.Steps.core c.settle.new.steps) k
    c.run-ran.ensures.lane (c.run-ran.ensures.runs k) c.settle.ensures.settles

pub returns-clause-gains : goal.returns-clause-gains
returns-clause-gains g c k =
    step_gains c.run-ran.result c.settle.result (reads_of c.args.world.now c.args.answers.now) c.args.self.now c.run-ran.new.self c.settle.new.self (stand (g.S.Steps.core c.args.steps.now) c.args.self.now.desk k) (g.S.Steps.core c.run-ran.new.steps) (g.S.Steps.core c.settle.new.steps) k
    c.calls_note_what_the_pass_gains.ensures.done c.calls_note_what_the_pass_gains.ensures.stopped c.calls_note_what_the_pass_gains.ensures.broken c.calls_note_what_the_pass_gains.ensures.ended (c.run-ran.ensures.runs k) c.settle.ensures.settles

pub returns-clause-uses : goal.returns-clause-uses
returns-clause-uses g c k =
    step_uses c.run-ran.result c.settle.result (reads_of c.args.world.now c.args.answers.now) c.args.self.now c.run-ran.new.self c.settle.new.self (stand (g.S.Steps.core c.args.steps.now) c.args.self.now.desk k) (g.S.Steps.core c.run-ran.new.steps) (g.S.Steps.core c.settle.new.steps) k
    c.a_lanes_calls_use_a_unit_for_each_section.ensures.done c.a_lanes_calls_use_a_unit_for_each_section.ensures.stopped c.a_lanes_calls_use_a_unit_for_each_section.ensures.broken c.requires.plan (c.run-ran.ensures.runs k) c.settle.ensures.settles

pub returns-clause-stands : goal.returns-clause-stands
returns-clause-stands g c k s = c.settle.ensures.stands k (c.run-ran.ensures.stands k s)

pub returns-clause-weight : goal.returns-clause-weight
returns-clause-weight g c =
    settles_weigh c.run-ran.result c.settle.result c.args.self.now c.run-ran.new.self c.settle.new.self (g.S.Steps.core c.run-ran.new.steps) (g.S.Steps.core c.settle.new.steps) c.run-ran.ensures.lane c.run-ran.ensures.weight c.run-ran.ensures.fails c.run-ran.ensures.ran c.settle.ensures.settles
