use Rattle.mp_plain.proofs.Words.{put_row_is, put_row_packed, put_row_same}
use Rattle.mp_plain.proofs.cells.put_row.Goals as goal

pub returns-clause-words : goal.returns-clause-words
returns-clause-words c = put_row_is c.args.words.now c.get-place.result c.args.slot c.pack.result c.args.row.now c.get-place.ensures.number c.pack.ensures.unpacks

pub returns-clause-packed : goal.returns-clause-packed
returns-clause-packed c = put_row_packed c.args.words.now c.get-place.result c.pack.result c.args.row.now c.pack.ensures.unpacks

pub returns-clause-same : goal.returns-clause-same
returns-clause-same c = put_row_same c.args.words.now c.args.said.now c.get-place.result c.pack.result c.args.row.now c.pack.ensures.unpacks
