use Rattle.std.proofs.Common.{rules}
use Rattle.mp_topology.specs.Distance.{is_distance}
use Rattle.mp_topology.proofs.Values.{not_all}
use Rattle.mp_topology.proofs.distance.are_distances.Goals as goal

pub returns-then-is_none : goal.returns-then-is_none
returns-then-is_none c = not_all is_distance c.args.items.now c.loop-item.item-index c.item-item.result c.loop-item-test.true c.item-item.is (search rules)
