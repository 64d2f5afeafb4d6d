use Rattle.std.proofs.Common.{refl}
use Rattle.mp_script.specs.Splitting.{first_line}
use Rattle.mp_script.specs.Shape.{shape}
use Rattle.mp_script.proofs.Lanes.{marked_start, marked_more, marked_end}
use Rattle.mp_script.proofs.submits.submitted_in.Goals as goal

pub loop-rest-init : goal.loop-rest-init
loop-rest-init c = marked_start c.args.nodes c.args.bytes.now _ c.in_ok-submits.ensures

pub loop-rest-preserved : goal.loop-rest-preserved
loop-rest-preserved c = marked_more c.args.nodes c.args.bytes.now c.loop-rest.rest.now (first_line c.loop-rest.rest.now) c.take_line-cut.result.rest.now c.loop-rest.begun _ c.loop-rest.submits _ (shape c.take_line-cut.result.line)
    c.loop-rest.invariant c.take_line-cut.ensures.line c.take_line-cut.ensures.shape c.put_submit.ensures (rw c.begins_lane-begun.ensures refl)

pub returns : goal.returns
returns c = marked_end c.args.nodes c.args.bytes.now c.loop-rest.rest.now c.loop-rest.begun c.loop-rest.submits c.loop-rest.invariant c.loop-rest-test.ensures
