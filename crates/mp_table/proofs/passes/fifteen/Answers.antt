use Rattle.std.proofs.Common.{refl, arith}
use Rattle.std.specs.Slots.{slots_items}
use Rattle.mp_table.proofs.Ends.{filled_more, filled_all}
use Rattle.mp_table.proofs.passes.fifteen.Goals as goal

pub loop-i-init : goal.loop-i-init
loop-i-init c = record { count = refl; read = λ j l. absurd (omega arith) }

pub loop-i-preserved : goal.loop-i-preserved
loop-i-preserved c = filled_more 15 c.loop-i.i c.args.from c.word.result (slots_items c.args.closed.now.words) c.loop-i.words c.loop-i-test.true c.loop-i.invariant c.word.ensures

pub returns : goal.returns
returns c = filled_all 15 c.loop-i.i c.args.from (slots_items c.args.closed.now.words) c.loop-i.words c.loop-i-test.false c.loop-i.invariant
