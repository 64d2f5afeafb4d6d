use Rattle.std.proofs.Common.{◌≡◌, refl, sym, ap, ◌∙◌, arith}
use Rattle.mp_desk.specs.Desks.{desk_of}
use Rattle.mp_desk.specs.DeskView.{unended}
use Rattle.mp_desk.proofs.Keeping.{breaks, does, goes_on, leaves, room_leaves, stops, weighs}
use Rattle.mp_desk.proofs.KeeperStands.{stands_room}
use Rattle.mp_desk.proofs.Sitting.{kept_same, ok_so}
use Rattle.mp_desk.proofs.desk.Desk.remove.Goals as goal

pub loop-init : goal.loop-init
loop-init g c = record { sits = c.requires.sits; kept = kept_same _; stands = c.requires.stands; left = omega (arith, c.left-end.ensures); all = c.left-end.ensures; weight = omega arith; again = λ near answers. (0, refl) }

pub returns-then-is_err-clause-leaves : goal.returns-then-is_err-clause-leaves
returns-then-is_err-clause-leaves g c =
    room_leaves _ _ (desk_of c.args.self.now) (desk_of c.loop.self) (desk_of c.reserve_with.new.self) c.loop.keeper c.reserve_with.new.keeper c.loop.invariant.kept c.loop.invariant.sits c.reserve_with.ensures.desk c.loop.invariant.stands c.reserve_with.ensures.keeper

pub returns-then-is_err-clause-breaks : goal.returns-then-is_err-clause-breaks
returns-then-is_err-clause-breaks g c near answers =
    breaks c.args.line c.args.ctrl (g.S.Steps.core c.args.steps.now) (g.S.Steps.core c.loop.steps) (desk_of c.args.self.now) (desk_of c.loop.self) (desk_of c.reserve_with.new.self) c.args.keeper.now c.loop.keeper c.reserve_with.new.keeper c.loop.counter c.left-end.result c.loop.invariant c.reserve_with.ensures.desk c.reserve_with.ensures.keeper near answers

pub remove-answer-requires-clause-left : goal.remove-answer-requires-clause-left
remove-answer-requires-clause-left g c = omega (arith, c.loop.invariant.left, c.loop-test.true)

pub remove-answer-requires-clause-closed : goal.remove-answer-requires-clause-closed
remove-answer-requires-clause-closed g c = c.loop.invariant.sits.closed

pub remove-answer-requires-clause-stands : goal.remove-answer-requires-clause-stands
remove-answer-requires-clause-stands g c = stands_room c.loop.keeper c.reserve_with.new.keeper (g.S.Steps.core c.loop.steps).view c.reserve_with.ensures.keeper c.loop.invariant.stands

pub note_marked-requires : goal.note_marked-requires
note_marked-requires g c = ok_so c.reserve_with.result c.is_err.result c.is_err.ensures.value c.if-is_err.false c.reserve_with.ensures.room

pub returns-then-note_marked-clause-does : goal.returns-then-note_marked-clause-does
returns-then-note_marked-clause-does g c near answers =
    does c.args.line c.args.ctrl _ _ (g.S.Steps.core c.remove-answer.new.steps) (desk_of c.args.self.now) (desk_of c.loop.self) (desk_of c.note_marked.new.self) (desk_of c.reserve_with.new.self) c.args.keeper.now c.loop.keeper c.reserve_with.new.keeper c.remove-answer.new.self c.loop.counter c.left-end.result c.lane.result c.remove-answer.result c.loop.invariant
    (record { removes = c.remove-answer.ensures; lane_is = c.lane.ensures; keeper = c.reserve_with.ensures.keeper; room = c.reserve_with.ensures.desk; desk = c.note_marked.ensures.desk })
    (sym c.note_marked.ensures.over ∙ c.if-note_marked.true) c.loop-test.true near answers

pub returns-then-note_marked-clause-leaves : goal.returns-then-note_marked-clause-leaves
returns-then-note_marked-clause-leaves g c =
    leaves c.args.line c.args.ctrl _ _ (g.S.Steps.core c.remove-answer.new.steps) (desk_of c.args.self.now) (desk_of c.loop.self) (desk_of c.note_marked.new.self) (desk_of c.reserve_with.new.self) c.args.keeper.now c.loop.keeper c.reserve_with.new.keeper c.remove-answer.new.self c.loop.counter c.left-end.result c.lane.result c.remove-answer.result c.loop.invariant
    (record { removes = c.remove-answer.ensures; lane_is = c.lane.ensures; keeper = c.reserve_with.ensures.keeper; room = c.reserve_with.ensures.desk; desk = c.note_marked.ensures.desk })

pub loop-preserved : goal.loop-preserved
loop-preserved g c =
    goes_on c.args.line c.args.ctrl _ _ (g.S.Steps.core c.remove-answer.new.steps) (desk_of c.args.self.now) (desk_of c.loop.self) (desk_of c.note_marked.new.self) (desk_of c.reserve_with.new.self) c.args.keeper.now c.loop.keeper c.reserve_with.new.keeper c.remove-answer.new.self c.loop.counter c.left-end.result c.lane.result c.remove-answer.result c.loop.invariant
    (record { removes = c.remove-answer.ensures; lane_is = c.lane.ensures; keeper = c.reserve_with.ensures.keeper; room = c.reserve_with.ensures.desk; desk = c.note_marked.ensures.desk })
    (sym c.note_marked.ensures.over ∙ c.if-note_marked.false) c.loop-test.true

pub returns-clause-does : goal.returns-clause-does
returns-clause-does g c near answers = stops c.args.line c.args.ctrl _ _ (desk_of c.args.self.now) (desk_of c.loop.self) c.args.keeper.now c.loop.keeper c.loop.counter c.left-end.result c.loop.invariant c.loop-test.false near answers

pub returns-clause-leaves : goal.returns-clause-leaves
returns-clause-leaves g c = record { sits = c.loop.invariant.sits; kept = c.loop.invariant.kept; stands = c.loop.invariant.stands }

pub returns-then-is_err-clause-weight : goal.returns-then-is_err-clause-weight
returns-then-is_err-clause-weight g c = let same : unended (desk_of c.reserve_with.new.self) ≡ unended (desk_of c.loop.self) = ap unended c.reserve_with.ensures.desk in omega (arith, same, c.loop.invariant.weight)

pub returns-then-note_marked-clause-weight : goal.returns-then-note_marked-clause-weight
returns-then-note_marked-clause-weight g c =
    weighs c.args.line c.args.ctrl _ _ (g.S.Steps.core c.remove-answer.new.steps) (desk_of c.args.self.now) (desk_of c.loop.self) (desk_of c.note_marked.new.self) (desk_of c.reserve_with.new.self) c.args.keeper.now c.loop.keeper c.reserve_with.new.keeper c.remove-answer.new.self c.loop.counter c.left-end.result c.lane.result c.remove-answer.result c.loop.invariant
    (record { removes = c.remove-answer.ensures; lane_is = c.lane.ensures; keeper = c.reserve_with.ensures.keeper; room = c.reserve_with.ensures.desk; desk = c.note_marked.ensures.desk })

pub returns-clause-weight : goal.returns-clause-weight
returns-clause-weight g c = c.loop.invariant.weight
