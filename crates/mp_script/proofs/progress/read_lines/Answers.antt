use Rattle.std.proofs.Common.{arith}
use Rattle.std.proofs.lemmas.Result.{err_from_is_err_and}
use Rattle.mp_script.specs.Splitting.{first_line}
use Rattle.mp_script.specs.Shape.{shape}
use Rattle.mp_script.proofs.Among.{known_same}
use Rattle.mp_script.proofs.Steps.{at_stops, at_more, at_end}
use Rattle.mp_script.proofs.progress.read_lines.Goals as goal

pub loop-rest-preserved : goal.loop-rest-preserved
loop-rest-preserved c = record {
  at = at_more c.args.setting.now.topology.now c.args.setting.now.pages c.args.bytes.now c.loop-rest.rest.now (first_line c.loop-rest.rest.now) c.take_line-cut.result.rest.now c.args.setting.now.submits c.loop-rest.progress _
      (shape c.take_line-cut.result.line) c.loop-rest.invariant.at c.take_line-cut.ensures.line c.take_line-cut.ensures.shape c.requires
      c.in_ok-read_line.ensures.passed c.in_ok-read_line.ensures.known c.in_ok-read_line.ensures.building c.in_ok-read_line.ensures.number;
  few = c.in_ok-read_line.ensures.few;
  begun = c.in_ok-read_line.ensures.lanes;
}

pub returns-in_err-read_line-clause-refused : goal.returns-in_err-read_line-clause-refused
returns-in_err-read_line-clause-refused c = λ some.
    let p = err_from_is_err_and c.from_residual-in_err-read_line.result c.from_residual-in_err-read_line.ensures.1 in
    let same = known_same c.args.setting.now.submits c.loop-rest.progress.earlier.submitted _ some c.requires in
    rw (p.1, p.2) (λ n. at_stops c.args.setting.now.topology.now c.args.setting.now.pages c.args.bytes.now c.loop-rest.rest.now (first_line c.loop-rest.rest.now) c.take_line-cut.result.rest.now _ c.loop-rest.progress _
    (shape c.take_line-cut.result.line) c.loop-rest.invariant.at c.take_line-cut.ensures.line c.take_line-cut.ensures.shape same (λ b k. c.in_err-read_line.ensures.refused b k n))

pub returns-clause-answers : goal.returns-clause-answers
returns-clause-answers c = (at_end c.args.setting.now.topology.now c.args.setting.now.pages c.args.bytes.now c.loop-rest.rest.now c.loop-rest.progress c.loop-rest.invariant.at c.loop-rest-test.ensures).1

pub returns-clause-passed : goal.returns-clause-passed
returns-clause-passed c = (at_end c.args.setting.now.topology.now c.args.setting.now.pages c.args.bytes.now c.loop-rest.rest.now c.loop-rest.progress c.loop-rest.invariant.at c.loop-rest-test.ensures).0

pub returns-clause-lanes : goal.returns-clause-lanes
returns-clause-lanes c = (at_end c.args.setting.now.topology.now c.args.setting.now.pages c.args.bytes.now c.loop-rest.rest.now c.loop-rest.progress c.loop-rest.invariant.at c.loop-rest-test.ensures).2

pub returns-clause-few : goal.returns-clause-few
returns-clause-few c =
    let count = (at_end c.args.setting.now.topology.now c.args.setting.now.pages c.args.bytes.now c.loop-rest.rest.now c.loop-rest.progress c.loop-rest.invariant.at c.loop-rest-test.ensures).3 in
    omega (arith, count, c.loop-rest.invariant.few)
