use Rattle.std.proofs.Common.{◌∙◌}
use Rattle.std.proofs.lemmas.List.{length-set}
use Rattle.mp_legal.proofs.Blanks.{counted_more}
use Rattle.mp_legal.proofs.histories.numbers.Goals as goal

pub loop-entry-preserved : goal.loop-entry-preserved
loop-entry-preserved c = record {
  length = length-set c.loop-entry.numbers c.get-slot.result _ ∙ c.loop-entry.invariant.length;
  counts = counted_more c.loop-entry.numbers c.args.entries.now c.loop-entry.entry-index c.entry-item.result c.get-slot.result c.loop-entry.invariant.length c.loop-entry-test.true c.entry-item.is c.get-slot.ensures.number c.get-slot.ensures.below c.loop-entry.invariant.counts;
}
