use Rattle.std.proofs.Common.{◌∙◌, ap, arith}
use Rattle.std.specs.Str.{bytes_eq}
use Rattle.mp_script.proofs.Pieces.{same_word}
use Rattle.mp_script.proofs.shapes.is_word.Goals as goal

pub returns : goal.returns
returns c = same_word c.args.w.now c.as_bytes-text.result.now c.loop-i.i (omega (arith, c.if-w-text.false)) (omega (arith, c.loop-i-test.false)) c.loop-i.invariant ∙ ap (bytes_eq c.args.w.now) c.as_bytes-text.ensures.value
