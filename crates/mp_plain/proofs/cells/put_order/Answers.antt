use Rattle.mp_words.proofs.OrderLaws.{order_fits}
use Rattle.mp_plain.proofs.Words.{put_order_is, put_order_packed, put_order_same}
use Rattle.mp_plain.proofs.cells.put_order.Goals as goal

pub returns-clause-words : goal.returns-clause-words
returns-clause-words c = put_order_is c.args.words.now c.pack-words.result c.args.order.now c.pack-words.ensures.unpacks

pub returns-clause-packed : goal.returns-clause-packed
returns-clause-packed c = put_order_packed c.args.words.now c.pack-words.result c.args.order.now c.pack-words.ensures.unpacks

pub returns-clause-fits : goal.returns-clause-fits
returns-clause-fits c = order_fits c.pack-words.result c.args.order.now c.pack-words.ensures.unpacks

pub returns-clause-same : goal.returns-clause-same
returns-clause-same c = put_order_same c.args.words.now c.args.said.now c.pack-words.result c.args.order.now c.pack-words.ensures.unpacks
