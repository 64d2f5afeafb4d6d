use Rattle.mp_words.proofs.Alike.{tells_row_as}
use Rattle.mp_words.proofs.like.is_same_row.Goals as goal

pub returns : goal.returns
returns c = tells_row_as _ c.args.a.now c.args.b.now (rw (c.get.ensures.number, c.get-2.ensures.number, c.cstate_code.ensures.value, c.cstate_code-2.ensures.value))
