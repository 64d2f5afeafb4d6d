use Rattle.mp_words.proofs.Rows.{packs, row_fits}
use Rattle.mp_words.proofs.packing_laws.rows_pack.Goals as goal

pub returns-clause-word : goal.returns-clause-word
returns-clause-word c = λ word row is. packs word row is

pub returns-clause-fits : goal.returns-clause-fits
returns-clause-fits c = λ word row is. row_fits word row is
