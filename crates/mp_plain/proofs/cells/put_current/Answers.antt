use Rattle.mp_plain.proofs.Words.{put_current_is}
use Rattle.mp_plain.proofs.cells.put_current.Goals as goal

pub returns-clause-words : goal.returns-clause-words
returns-clause-words c = put_current_is c.args.words.now c.get.result c.args.node c.current_word.result c.args.current c.get.ensures.number c.current_word.ensures
