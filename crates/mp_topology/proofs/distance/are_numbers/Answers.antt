use Rattle.std.proofs.Common.{rules}
use Rattle.mp_topology.specs.Distance.{is_number}
use Rattle.mp_topology.proofs.Values.{not_all}
use Rattle.mp_topology.proofs.distance.are_numbers.Goals as goal

pub returns-then-not-is_number : goal.returns-then-not-is_number
returns-then-not-is_number c = not_all is_number c.args.items.now c.loop-item.item-index c.item-item.result c.loop-item-test.true c.item-item.is (search rules)
