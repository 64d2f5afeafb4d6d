use Rattle.std.proofs.Common.{ap, ◌∙◌}
use Rattle.mp_words.specs.RowWord.{row_of_word}
use Rattle.mp_words.proofs.Rows.{row_unpacks}
use Rattle.mp_words.proofs.row.Row.pack.Goals as goal

pub returns-clause-unpacks : goal.returns-clause-unpacks
returns-clause-unpacks c = ap row_of_word c.bits.ensures.word ∙ row_unpacks c.args.self c.bits.ensures.fits
