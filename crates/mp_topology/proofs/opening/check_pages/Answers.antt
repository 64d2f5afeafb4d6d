use Rattle.std.proofs.lemmas.Result.{err_from_is_err_and}
use Rattle.mp_checks.proofs.CheckLaws.{each_more, each_stops}
use Rattle.mp_topology.specs.Opening.{paged_checks, opening_page_checks}
use Rattle.mp_topology.proofs.opening.check_pages.Goals as goal

pub returns-in_err-check_page : goal.returns-in_err-check_page
unfolding opening_page_checks
returns-in_err-check_page c =
    let p = err_from_is_err_and c.from_residual.result c.from_residual.ensures.1 in
    rw (p.1, p.2) (λ n. each_stops (λ j place. paged_checks c.args.controllers.now place) c.args.opening.now c.loop-place.place-index c.place-item.result c.place-item.result _
    c.loop-place-test.true c.place-item.is c.loop-place.invariant (c.in_err-check_page.ensures n))

pub loop-place-preserved : goal.loop-place-preserved
loop-place-preserved c = each_more (λ j place. paged_checks c.args.controllers.now place) c.args.opening.now c.loop-place.place-index c.place-item.result c.place-item.result
    c.loop-place-test.true c.place-item.is c.loop-place.invariant c.in_ok-check_page.ensures.0
