use Rattle.std.proofs.Common.{◌∙◌}
use Rattle.mp_page.proofs.Steps.{numbers_step}
use Rattle.mp_page.proofs.reading.numbers_at.Goals as goal

pub loop-i-preserved : goal.loop-i-preserved
loop-i-preserved c = rw (c.in_ok-push.ensures.items, c.u32_at.ensures) (numbers_step c.loop-i.found.items c.args.count c.loop-i.i c.args.place c.args.bytes.now c.loop-i-test.true ∙ c.loop-i.invariant)
