use Rattle.std.proofs.Common.{◌∙◌, sym}
use Rattle.mp_plain.proofs.Rows.{rows_more}
use Rattle.mp_plain.proofs.unpacked.rows_of.Goals as goal

pub loop-slot-preserved : goal.loop-slot-preserved
loop-slot-preserved c = rows_more c.args.words.now c.loop-slot.rows c.loop-slot.slot c.unwrap-row.result c.loop-slot-test.true c.told-words (sym c.unpack.ensures.row ∙ c.unwrap-row.ensures) c.loop-slot.invariant
