use Rattle.std.proofs.Common.{◌≡◌, refl, sym, ap, ◌∙◌, subst, arith}
use Rattle.mp_desk.specs.Calls.{Sits}
use Rattle.mp_desk.specs.Desks.{desk_of}
use Rattle.mp_desk.specs.DeskView.{unended}
use Rattle.mp_desk.proofs.Changing.{breaks, leaves, does, goes_on, stands, stops, weighs}
use Rattle.mp_desk.proofs.Sitting.{kept_same}
use Rattle.mp_desk.proofs.desk.Desk.change.Goals as goal

pub loop-init : goal.loop-init
loop-init g c = record { sits = c.requires.sits; kept = kept_same _; left = omega (arith, c.left-end.ensures); all = c.left-end.ensures; stands = λ k h. h; weight = omega arith; again = λ near answers k. (0, refl) }

pub returns-then-is_err-clause-leaves : goal.returns-then-is_err-clause-leaves
returns-then-is_err-clause-leaves g c = record { sits = subst (Sits (g.S.Steps.core c.loop.steps)) (sym c.reserve.ensures.desk) c.loop.invariant.sits; kept = c.loop.invariant.kept }

pub returns-then-is_err-clause-stands : goal.returns-then-is_err-clause-stands
returns-then-is_err-clause-stands g c = c.loop.invariant.stands

pub returns-then-is_err-clause-weight : goal.returns-then-is_err-clause-weight
returns-then-is_err-clause-weight g c = let same : unended (desk_of c.reserve.new.self) ≡ unended (desk_of c.loop.self) = ap unended c.reserve.ensures.desk in omega (arith, same, c.loop.invariant.weight)

pub returns-then-is_err-clause-breaks : goal.returns-then-is_err-clause-breaks
returns-then-is_err-clause-breaks g c near answers k =
    breaks c.args.line c.args.ctrl c.args.op.now (g.S.Steps.core c.args.steps.now) (g.S.Steps.core c.loop.steps) (desk_of c.args.self.now) (desk_of c.loop.self) (desk_of c.reserve.new.self) c.loop.counter c.left-end.result c.loop.invariant c.reserve.ensures.desk near answers k

pub change-end-requires-clause-left : goal.change-end-requires-clause-left
change-end-requires-clause-left g c = omega (arith, c.loop.invariant.left, c.loop-test.true)

pub change-end-requires-clause-closed : goal.change-end-requires-clause-closed
change-end-requires-clause-closed g c = c.loop.invariant.sits.closed

pub returns-then-note_change-clause-does : goal.returns-then-note_change-clause-does
returns-then-note_change-clause-does g c near answers k =
    does c.args.line c.args.ctrl c.args.op.now (g.S.Steps.core c.args.steps.now) (g.S.Steps.core c.loop.steps) (g.S.Steps.core c.change-end.new.steps) (desk_of c.args.self.now) (desk_of c.loop.self) (desk_of c.note_change.new.self) (desk_of c.reserve.new.self) c.loop.counter c.left-end.result c.lane.result c.change-end.result.end c.change-end.result.note c.loop.invariant
    (record { seen = c.change-end.ensures.0; changes = c.change-end.ensures.1; lane_is = c.lane.ensures; room = c.reserve.ensures.desk; desk = c.note_change.ensures.desk })
    (sym c.note_change.ensures.over ∙ c.if-note_change.true) c.loop-test.true near answers k

pub returns-then-note_change-clause-leaves : goal.returns-then-note_change-clause-leaves
returns-then-note_change-clause-leaves g c =
    leaves c.args.line c.args.ctrl c.args.op.now (g.S.Steps.core c.args.steps.now) (g.S.Steps.core c.loop.steps) (g.S.Steps.core c.change-end.new.steps) (desk_of c.args.self.now) (desk_of c.loop.self) (desk_of c.note_change.new.self) (desk_of c.reserve.new.self) c.loop.counter c.left-end.result c.lane.result c.change-end.result.end c.change-end.result.note c.loop.invariant
    (record { seen = c.change-end.ensures.0; changes = c.change-end.ensures.1; lane_is = c.lane.ensures; room = c.reserve.ensures.desk; desk = c.note_change.ensures.desk })

pub returns-then-note_change-clause-stands : goal.returns-then-note_change-clause-stands
returns-then-note_change-clause-stands g c =
    stands c.args.line c.args.ctrl c.args.op.now (g.S.Steps.core c.args.steps.now) (g.S.Steps.core c.loop.steps) (g.S.Steps.core c.change-end.new.steps) (desk_of c.args.self.now) (desk_of c.loop.self) (desk_of c.note_change.new.self) (desk_of c.reserve.new.self) c.loop.counter c.left-end.result c.lane.result c.change-end.result.end c.change-end.result.note c.loop.invariant
    (record { seen = c.change-end.ensures.0; changes = c.change-end.ensures.1; lane_is = c.lane.ensures; room = c.reserve.ensures.desk; desk = c.note_change.ensures.desk })

pub returns-then-note_change-clause-weight : goal.returns-then-note_change-clause-weight
returns-then-note_change-clause-weight g c =
    weighs c.args.line c.args.ctrl c.args.op.now (g.S.Steps.core c.args.steps.now) (g.S.Steps.core c.loop.steps) (g.S.Steps.core c.change-end.new.steps) (desk_of c.args.self.now) (desk_of c.loop.self) (desk_of c.note_change.new.self) (desk_of c.reserve.new.self) c.loop.counter c.left-end.result c.lane.result c.change-end.result.end c.change-end.result.note c.loop.invariant
    (record { seen = c.change-end.ensures.0; changes = c.change-end.ensures.1; lane_is = c.lane.ensures; room = c.reserve.ensures.desk; desk = c.note_change.ensures.desk })

pub loop-preserved : goal.loop-preserved
loop-preserved g c =
    goes_on c.args.line c.args.ctrl c.args.op.now (g.S.Steps.core c.args.steps.now) (g.S.Steps.core c.loop.steps) (g.S.Steps.core c.change-end.new.steps) (desk_of c.args.self.now) (desk_of c.loop.self) (desk_of c.note_change.new.self) (desk_of c.reserve.new.self) c.loop.counter c.left-end.result c.lane.result c.change-end.result.end c.change-end.result.note c.loop.invariant
    (record { seen = c.change-end.ensures.0; changes = c.change-end.ensures.1; lane_is = c.lane.ensures; room = c.reserve.ensures.desk; desk = c.note_change.ensures.desk })
    (sym c.note_change.ensures.over ∙ c.if-note_change.false) c.loop-test.true

pub returns-clause-does : goal.returns-clause-does
returns-clause-does g c = λ near answers k. stops _ _ _ _ _ _ _ _ _ c.loop.invariant c.loop-test.false near answers k

pub returns-clause-leaves : goal.returns-clause-leaves
returns-clause-leaves g c = record { sits = c.loop.invariant.sits; kept = c.loop.invariant.kept }

pub returns-clause-stands : goal.returns-clause-stands
returns-clause-stands g c = c.loop.invariant.stands

pub returns-clause-weight : goal.returns-clause-weight
returns-clause-weight g c = c.loop.invariant.weight
