use Rattle.std.proofs.Common.{◌∙◌}
use Rattle.mp_script.proofs.Plain.{finish_is}
use Rattle.mp_script.proofs.shapes.plain_finish.Goals as goal

pub returns-in-Some-behind_feed-clause-shape : goal.returns-in-Some-behind_feed-clause-shape
returns-in-Some-behind_feed-clause-shape c = c.cut.ensures.line ∙ finish_is c.args.bytes.now c.split_at.result.1.now c.in-Some.found.0.now c.in-Some.found.2.now
    (rw c.split_at.ensures.back (c.begins.ensures c.if-not-begins.false)) c.in-Some.ensures.word c.in-Some-behind_feed.ensures.over
