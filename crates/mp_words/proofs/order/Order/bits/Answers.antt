use Rattle.std.proofs.Common.{◌<◌, arith}
use Rattle.std.specs.Prelude.{slice_index}
use Rattle.mp_words.proofs.OrderLaws.{of_eight}
use Rattle.mp_words.proofs.order.Order.bits.Goals as goal

pub returns-clause-fits : goal.returns-clause-fits
returns-clause-fits c = record {
  stored = c.requires.order;
  version_fits = c.requires.version;
  slots_fit = λ i l. of_eight (λ i. i < c.args.self.now.len → slice_index c.args.self.now.slots i < 15) c.place.ensures.slot c.place-2.ensures.slot c.place-3.ensures.slot c.place-4.ensures.slot c.place-5.ensures.slot c.place-6.ensures.slot c.place-7.ensures.slot c.place-8.ensures.slot i (omega (arith, l, c.requires.order.within)) l;
}
