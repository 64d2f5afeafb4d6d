use Rattle.std.proofs.Common.{◌∙◌, get_or, arith}
use Rattle.mp_legal.proofs.Blanks.{blanks_more}
use Rattle.mp_legal.proofs.histories.blanks.Goals as goal

pub loop-place-preserved : goal.loop-place-preserved
loop-place-preserved c =
    c.in_ok-push.ensures.items
    ∙ blanks_more c.loop-place.all.items c.args.entries.now c.args.words.now c.loop-place.place c.slot_of.result (get_or c.numbers-numbers.result c.loop-place.place 0) c.first_entry-first.result c.in_ok-blank.field-0 (omega (arith, c.loop-place-test.true)) c.slot_of.ensures c.first_entry-first.ensures (c.numbers-numbers.ensures c.loop-place.place c.loop-place-test.true) c.in_ok-blank.ensures c.loop-place.invariant
