use Rattle.mp_words.proofs.OrderLaws.{order_packs, order_fits}
use Rattle.mp_words.proofs.packing_laws.orders_pack.Goals as goal

pub returns-clause-word : goal.returns-clause-word
returns-clause-word c = λ word order few is. order_packs word order few is

pub returns-clause-fits : goal.returns-clause-fits
returns-clause-fits c = λ word order is. order_fits word order is
