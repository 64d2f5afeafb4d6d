use Rattle.std.proofs.Common.{arith}
use Rattle.std.proofs.lemmas.Grind.{common_steps}
use Rattle.std.proofs.lemmas.List.Elements.{All-more}
use Rattle.mp_page.specs.Written.{Fits}
use Rattle.mp_page.proofs.Written.{fits_item}
use Rattle.mp_page.proofs.writing.put_groups.Goals as goal

pub loop-group-preserved : goal.loop-group-preserved
loop-group-preserved c = record {
  bytes = grind (arith, common_steps);
  fits = All-more Fits c.args.groups.now c.loop-group.group-index c.group-item.result c.loop-group-test.true c.loop-group.invariant.fits (fits_item _ _ c.group-item.is c.in_ok-put_group.ensures.fits);
}
