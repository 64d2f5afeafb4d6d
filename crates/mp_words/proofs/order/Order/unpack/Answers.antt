use Rattle.std.proofs.Common.{◌≡◌, ◌<◌, ◌^◌, arith}
use Rattle.mp_words.specs.Facts.{IsOrder}
use Rattle.mp_words.specs.OrderWord.{order_word}
use Rattle.mp_words.proofs.OrderLaws.{order_packs, order_fits, if_order}
use Rattle.mp_words.proofs.order.Order.unpack.Goals as goal

pub returns-clause-stored : goal.returns-clause-stored
returns-clause-stored c = if_order IsOrder c.args.word c.order_from.result c.order_from.ensures (λ order is. (order_fits c.args.word order is).stored)

pub returns-clause-version : goal.returns-clause-version
returns-clause-version c = if_order (λ order. order.version < 2 ^ 30) c.args.word c.order_from.result c.order_from.ensures (λ order is. (order_fits c.args.word order is).version_fits)

pub returns-clause-packs : goal.returns-clause-packs
returns-clause-packs c =
    let below : c.args.word < 2 ^ 64 = omega arith in
    if_order (λ order. order_word order ≡ c.args.word) c.args.word c.order_from.result c.order_from.ensures (λ order is. order_packs c.args.word order below is)
