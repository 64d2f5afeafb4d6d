use Rattle.mp_words.proofs.OrderLaws.{order_packed, no_order}
use Rattle.mp_words.proofs.packing_laws.orders_unpack.Goals as goal

pub returns-clause-own : goal.returns-clause-own
returns-clause-own c = λ order fits. order_packed order fits

pub returns-clause-other : goal.returns-clause-other
returns-clause-other c = λ word few other. no_order word few other
