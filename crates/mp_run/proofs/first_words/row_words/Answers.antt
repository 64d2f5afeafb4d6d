use Rattle.mp_run.proofs.FirstMemory.{words_more, words_all}
use Rattle.mp_run.proofs.first_words.row_words.Goals as goal

pub loop-slot-preserved : goal.loop-slot-preserved
loop-slot-preserved c = words_more c.args.rows.now c.loop-slot.words c.loop-slot.slot c.pack.result c.index-rows-slot.result c.loop-slot-test.true c.requires.length c.index-rows-slot.is c.pack.ensures.unpacks c.loop-slot.invariant

pub returns : goal.returns
returns c = words_all c.args.rows.now c.loop-slot.words c.loop-slot.slot c.loop-slot-test.false c.requires.length c.loop-slot.auto.slot-end c.loop-slot.invariant
