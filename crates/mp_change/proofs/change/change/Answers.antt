use Rattle.mp_words.specs.declared.op.Op.{Op}
use Rattle.mp_words.specs.declared.op.Op.TheVariants as kind
use Rattle.mp_core.specs.Kinds.{IsLaneOp}
use Rattle.mp_change.specs.Changes.{IsLineOp}
use Rattle.mp_change.proofs.Changing.{changed}
use Rattle.mp_change.proofs.change.change.Goals as goal

-- a line's operation is one that a section may make
of_line : (op : Op) → IsLineOp op → IsLaneOp op
of_line (kind.Log stated changing) is = is
of_line (kind.Ctrl cstate) is = is
of_line kind.Expire is = is
of_line kind.Pending is = absurd is
of_line (kind.Give gift) is = is
of_line kind.Mark is = is
of_line kind.Free is = is

pub change_path-end-requires-clause-op : goal.change_path-end-requires-clause-op
change_path-end-requires-clause-op g c = of_line c.args.op c.requires.op

pub returns : goal.returns
returns g c = changed c.args.ctrl c.args.op c.args.by (g.S.Steps.core c.args.steps.now) (g.S.Steps.core c.begin-section.new.steps) (g.S.Steps.core c.load_order-order.new.self) (g.S.Steps.core c.change_path-end.new.steps) (g.S.Steps.core c.leave-note.new.self)
    c.begin-section.result c.load_order-order.new.section c.change_path-end.new.section c.load_order-order.result c.change_path-end.result c.leave-note.result
    c.begin-section.ensures c.load_order-order.ensures c.change_path-end.ensures c.leave-note.ensures.note c.leave-note.ensures.kind
