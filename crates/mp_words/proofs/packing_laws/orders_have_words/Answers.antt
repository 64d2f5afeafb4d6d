use Rattle.mp_words.proofs.OrderLaws.{packing_is, is_packing}
use Rattle.mp_words.proofs.packing_laws.orders_have_words.Goals as goal

pub returns-clause-from : goal.returns-clause-from
returns-clause-from c = λ word is. packing_is word is

pub returns-clause-to : goal.returns-clause-to
returns-clause-to c = λ word is. is_packing word is
