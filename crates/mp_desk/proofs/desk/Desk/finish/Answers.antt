use Rattle.std.proofs.Common.{◌+◌, sym, subst}
use Rattle.mp_desk.specs.Desks.{desk_of}
use Rattle.mp_desk.proofs.FinishingEach.{GoesOn, breaks, starts, ends, goes_on, goes_still, stops, weighs}
use Rattle.mp_desk.proofs.Sitting.{kept_same}
use Rattle.mp_desk.proofs.desk.Desk.finish.Goals as goal
use Rattle.mp_desk.proofs.desk.Desk.finish.Goals.{in-None, in-Some+in-Ok}

pub loop-init : goal.loop-init
loop-init g c = starts c.args.answers.now c.args.named.now _ (desk_of c.args.self.now) c.count-end.result c.requires.sits (kept_same _) c.count-end.ensures

pub returns-in-Err-clause-does : goal.returns-in-Err-clause-does
returns-in-Err-clause-does g c near line k =
    stops (Unit {0}) c.finish_one.result c.in-Err.halt c.args.answers.now c.args.named.now c.in-Some.flying (g.S.Steps.core c.args.steps.now) (g.S.Steps.core c.loop.steps) (g.S.Steps.core c.finish_one.new.steps) (desk_of c.args.self.now) (desk_of c.loop.self) (desk_of c.finish_one.new.self) c.take.new.self.flying c.loop.counter c.count-end.result c.loop.invariant c.in-Some.ensures c.in-Err.is c.finish_one.ensures.does near line k

pub returns-in-Err-clause-stands : goal.returns-in-Err-clause-stands
returns-in-Err-clause-stands g c k s = c.finish_one.ensures.stands k (c.loop.invariant.stands k s)

pub returns-in-Err-clause-weight : goal.returns-in-Err-clause-weight
returns-in-Err-clause-weight g c =
    weighs c.args.named.now c.in-Some.flying (g.S.Steps.core c.args.steps.now) (g.S.Steps.core c.loop.steps) (desk_of c.args.self.now) (desk_of c.loop.self) (desk_of c.finish_one.new.self) c.take.new.self.flying c.loop.counter c.count-end.result c.args.answers.now c.loop.invariant c.in-Some.ensures c.finish_one.ensures.weight

pub loop-preserved : goal.loop-preserved
loop-preserved g c =
    let answers = c.args.answers.now in
    let named = c.args.named.now in
    let a = g.S.Steps.core c.args.steps.now in
    let d = desk_of c.args.self.now in
    let e = desk_of c.loop.self in
    let most = c.count-end.result in
    elim c.match-take.branch [
      | in-None w ↦ subst (λ s. GoesOn answers named a (g.S.Steps.core s) d (desk_of c.match-take.self) (c.loop.counter + 1) most) (sym w.steps-is) (subst (λ t. GoesOn answers named a (g.S.Steps.core c.loop.steps) d (desk_of t) (c.loop.counter + 1) most) (sym w.self-is)
          (goes_still answers named a (g.S.Steps.core c.loop.steps) d e c.take.new.self.flying c.loop.counter most c.loop.invariant c.loop-test.true w.in-None.ensures.0 w.in-None.ensures.1))
      | in-Some+in-Ok w ↦ subst (λ s. GoesOn answers named a (g.S.Steps.core s) d (desk_of c.match-take.self) (c.loop.counter + 1) most) (sym w.steps-is) (subst (λ t. GoesOn answers named a (g.S.Steps.core w.finish_one.new.steps) d (desk_of t) (c.loop.counter + 1) most) (sym w.self-is)
          (goes_on w.finish_one.result _ answers named w.in-Some.flying a (g.S.Steps.core c.loop.steps) (g.S.Steps.core w.finish_one.new.steps) d e (desk_of w.finish_one.new.self) c.take.new.self.flying c.loop.counter most c.loop.invariant w.in-Some.ensures w.in-Ok.is w.finish_one.ensures.does w.finish_one.ensures.leaves w.finish_one.ensures.stands w.finish_one.ensures.weight))
    ]

pub returns-clause-does : goal.returns-clause-does
returns-clause-does g c near line k = ends c.args.answers.now c.args.named.now _ _ (desk_of c.args.self.now) (desk_of c.loop.self) c.loop.counter c.count-end.result c.loop.invariant c.loop-test.false near line k

pub returns-clause-stands : goal.returns-clause-stands
returns-clause-stands g c = c.loop.invariant.stands

pub returns-clause-weight : goal.returns-clause-weight
returns-clause-weight g c = c.loop.invariant.weight

pub returns-in-Err-clause-breaks : goal.returns-in-Err-clause-breaks
returns-in-Err-clause-breaks g c near line k =
    breaks (Unit {0}) c.finish_one.result c.in-Err.halt c.args.answers.now c.args.named.now c.in-Some.flying (g.S.Steps.core c.args.steps.now) (g.S.Steps.core c.loop.steps) (g.S.Steps.core c.finish_one.new.steps) (desk_of c.args.self.now) (desk_of c.loop.self) (desk_of c.finish_one.new.self) c.take.new.self.flying c.loop.counter c.count-end.result c.loop.invariant c.in-Some.ensures c.in-Err.is c.finish_one.ensures.breaks near line k
