use Rattle.mp_plain.proofs.Words.{put_side_is}
use Rattle.mp_plain.proofs.cells.put_side.Goals as goal

pub returns-clause-words : goal.returns-clause-words
returns-clause-words c = put_side_is c.args.words.now c.args.side c.pack.result c.args.to c.pack.ensures.unpacks
