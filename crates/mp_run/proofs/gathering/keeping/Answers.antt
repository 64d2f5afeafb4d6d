use Rattle.mp_run.specs.Gathered.{first_entry}
use Rattle.mp_run.proofs.OrdersIn.{kept_more}
use Rattle.mp_run.proofs.gathering.keeping.Goals as goal

pub loop-entry-preserved : goal.loop-entry-preserved
loop-entry-preserved c =
    kept_more (first_entry c.args.order) c.entry-item.result c.args.made.now c.loop-entry.entry-index c.loop-entry.all.items c.push_order.new.all.items c.loop-entry-test.true c.entry-item.is c.loop-entry.invariant c.in_ok-push_order.ensures
