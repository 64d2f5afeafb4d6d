use Rattle.mp_words.specs.Facts.{IsRow}
use Rattle.std.proofs.Common.{◌≡◌}
use Rattle.mp_words.specs.RowWord.{row_word}
use Rattle.mp_words.proofs.Rows.{packs, row_fits, if_row}
use Rattle.mp_words.proofs.row.Row.unpack.Goals as goal

pub returns-clause-stored : goal.returns-clause-stored
returns-clause-stored c = if_row IsRow c.args.word c.row_from.result c.row_from.ensures (λ row is. (row_fits c.args.word row is).stored)

pub returns-clause-packs : goal.returns-clause-packs
returns-clause-packs c = if_row (λ row. row_word row ≡ c.args.word) c.args.word c.row_from.result c.row_from.ensures (λ row is. packs c.args.word row is)
