use Rattle.std.proofs.Common.{◌≡◌, sym, ap, subst}
use Rattle.std.specs.Prelude.{IfOk}
use Rattle.mp_desk.specs.Desks.{stand}
use Rattle.mp_lane.specs.Lines.{reads_of}
use Rattle.mp_lane.specs.Steps.{has_line}
use Rattle.mp_lane.proofs.StepGains.{step_gains}
use Rattle.mp_lane.proofs.Stepping.{breaks_to, settles_to}
use Rattle.mp_lane.proofs.Weighs.{settles_weigh}
use Rattle.mp_lane.proofs.lane.Lane.step_keeper.Goals as goal

pub settle-requires-clause-list : goal.settle-requires-clause-list
settle-requires-clause-list g c = ap (λ v. v.list) c.run_keeper-ran.ensures.lane

pub settle-requires-clause-ran : goal.settle-requires-clause-ran
settle-requires-clause-ran g c = subst (λ v. IfOk c.run_keeper-ran.result (λ ran. ran ≡ has_line v.rest)) (sym c.run_keeper-ran.ensures.lane) c.run_keeper-ran.ensures.ran

pub returns-clause-does : goal.returns-clause-does
returns-clause-does g c =
    settles_to c.run_keeper-ran.result c.settle.result (reads_of c.args.world.now c.args.answers.now) c.args.self.now c.run_keeper-ran.new.self c.settle.new.self (stand (g.S.Steps.core c.args.steps.now) c.args.self.now.desk c.args.keeper.now) (g.S.Steps.core c.run_keeper-ran.new.steps) (g.S.Steps.core c.settle.new.steps) c.run_keeper-ran.new.keeper
    c.run_keeper-ran.ensures.lane c.run_keeper-ran.ensures.ran c.run_keeper-ran.ensures.runs c.settle.ensures.settles

pub returns-clause-stands : goal.returns-clause-stands
returns-clause-stands g c = c.settle.ensures.stands c.run_keeper-ran.new.keeper c.run_keeper-ran.ensures.stands

pub returns-clause-breaks : goal.returns-clause-breaks
returns-clause-breaks g c =
    breaks_to c.run_keeper-ran.result c.settle.result (reads_of c.args.world.now c.args.answers.now) c.args.self.now c.run_keeper-ran.new.self c.settle.new.self (stand (g.S.Steps.core c.args.steps.now) c.args.self.now.desk c.args.keeper.now) (g.S.Steps.core c.run_keeper-ran.new.steps) (g.S.Steps.core c.settle.new.steps) c.run_keeper-ran.new.keeper
    c.run_keeper-ran.ensures.lane c.run_keeper-ran.ensures.runs c.settle.ensures.settles

pub returns-clause-gains : goal.returns-clause-gains
returns-clause-gains g c =
    step_gains c.run_keeper-ran.result c.settle.result (reads_of c.args.world.now c.args.answers.now) c.args.self.now c.run_keeper-ran.new.self c.settle.new.self (stand (g.S.Steps.core c.args.steps.now) c.args.self.now.desk c.args.keeper.now) (g.S.Steps.core c.run_keeper-ran.new.steps) (g.S.Steps.core c.settle.new.steps) c.run_keeper-ran.new.keeper
    c.calls_note_what_the_pass_gains.ensures.done c.calls_note_what_the_pass_gains.ensures.stopped c.calls_note_what_the_pass_gains.ensures.broken c.calls_note_what_the_pass_gains.ensures.ended c.run_keeper-ran.ensures.runs c.settle.ensures.settles

pub returns-clause-weight : goal.returns-clause-weight
returns-clause-weight g c =
    settles_weigh c.run_keeper-ran.result c.settle.result c.args.self.now c.run_keeper-ran.new.self c.settle.new.self (g.S.Steps.core c.run_keeper-ran.new.steps) (g.S.Steps.core c.settle.new.steps) c.run_keeper-ran.ensures.lane c.run_keeper-ran.ensures.weight c.run_keeper-ran.ensures.fails c.run_keeper-ran.ensures.ran c.settle.ensures.settles
