use Rattle.mp_words.proofs.Rows.{row_unpacks, no_row}
use Rattle.mp_words.proofs.packing_laws.rows_unpack.Goals as goal

pub returns-clause-own : goal.returns-clause-own
returns-clause-own c = λ row fits. row_unpacks row fits

pub returns-clause-other : goal.returns-clause-other
returns-clause-other c = λ word other. no_row word other
