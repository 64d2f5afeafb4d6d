use Rattle.std.proofs.Common.{ap, ◌∙◌}
use Rattle.mp_words.specs.OrderWord.{order_of_word}
use Rattle.mp_words.proofs.OrderLaws.{order_packed}
use Rattle.mp_words.proofs.order.Order.pack.Goals as goal

pub returns-clause-unpacks : goal.returns-clause-unpacks
returns-clause-unpacks c = ap order_of_word c.bits.ensures.word ∙ order_packed c.args.self c.bits.ensures.fits
