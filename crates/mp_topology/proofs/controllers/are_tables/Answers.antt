use Rattle.std.proofs.Common.{rules}
use Rattle.mp_topology.proofs.Values.{not_all_tables}
use Rattle.mp_topology.proofs.controllers.are_tables.Goals as goal

pub returns-then-is_none : goal.returns-then-is_none
returns-then-is_none c = not_all_tables c.args.items.now c.loop-item.item-index c.item-item.result c.as_table.result c.loop-item-test.true c.item-item.is c.as_table.ensures (search rules)
