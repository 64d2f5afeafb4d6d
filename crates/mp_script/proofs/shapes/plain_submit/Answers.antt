use Rattle.std.proofs.Common.{◌∙◌}
use Rattle.mp_script.proofs.Plain.{submit_is}
use Rattle.mp_script.proofs.shapes.plain_submit.Goals as goal

pub returns-in-Some-behind_feed-clause-shape : goal.returns-in-Some-behind_feed-clause-shape
returns-in-Some-behind_feed-clause-shape c = c.cut.ensures.line ∙ submit_is c.args.bytes.now c.split_at.result.1.now c.in-Some.found.0.now c.in-Some.found.2.now c.split_at-2.result.1.now c.in-Some-split_digits.found.0.now c.in-Some-split_digits.found.2.now
    (rw c.split_at.ensures.back (c.begins.ensures c.if-not-begins.false)) c.in-Some.ensures.word (rw c.split_at-2.ensures.back (c.begins-2.ensures c.if-not-begins-2.false)) c.in-Some-split_digits.ensures.word c.in-Some-behind_feed.ensures.over
