use Rattle.std.proofs.Common.{arith}
use Rattle.mp_words.proofs.OrderLaws.{order_fits}
use Rattle.mp_plain.proofs.KeeperKinds.{unlisted_far}
use Rattle.mp_table.specs.Passes.{table_of}
use Rattle.mp_table.proofs.KeeperKinds.{order_stores}
use Rattle.mp_table.proofs.keeper_steps.store_order.Goals as goal

pub pack-to-requires-clause-order : goal.pack-to-requires-clause-order
pack-to-requires-clause-order c = c.requires.next.lawful

pub pack-to-requires-clause-version : goal.pack-to-requires-clause-version
pack-to-requires-clause-version c =
    let most = c.args.token.now.fits.lists c.requires.keeper in
    let next = c.requires.next.version in
    let left = c.requires.left in
    omega arith

pub list_as-requires-clause-rule : goal.list_as-requires-clause-rule
list_as-requires-clause-rule c = order_stores (table_of c.args.shared.now) c.args.lane c.args.token.now.seat.id c.args.token.now.seat.me.0 c.args.token.now.fits c.args.entry.now c.pack-to.result c.requires.keeper c.requires.left c.requires.next c.pack-to.ensures.unpacks (unlisted_far c.args.entry.now.order (order_fits c.pack-to.result c.args.entry.now.order c.pack-to.ensures.unpacks))
