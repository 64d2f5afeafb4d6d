use Rattle.std.proofs.Common.{refl, sym}
use Rattle.std.proofs.lemmas.Result.{err_from_is_err_and}
use Rattle.mp_checks.proofs.CheckLaws.{each_more, each_stops, unless_ok, unless_err}
use Rattle.mp_topology.specs.Fits.{box_checks, fits_checks}
use Rattle.mp_topology.proofs.fits.check_boxes.Goals as goal

pub returns-in_err-check_box : goal.returns-in_err-check_box
unfolding fits_checks
returns-in_err-check_box c =
    let p = err_from_is_err_and c.from_residual.result c.from_residual.ensures.1 in
    rw (
      p.1,
      p.2,
      each_stops (box_checks c.args.boxes) c.args.controllers.now c.loop-i.i c.index-controllers-i.result c.index-controllers-i.result _
          c.loop-i-test.true c.index-controllers-i.is c.loop-i.invariant (unless_err _ _ _ (sym c.in_err-check_box.ensures)),
    ) refl

pub loop-i-preserved : goal.loop-i-preserved
loop-i-preserved c = each_more (box_checks c.args.boxes) c.args.controllers.now c.loop-i.i c.index-controllers-i.result c.index-controllers-i.result
    c.loop-i-test.true c.index-controllers-i.is c.loop-i.invariant (unless_ok _ _ _ (sym c.in_ok-check_box.ensures)).0
