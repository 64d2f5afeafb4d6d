use Rattle.mp_words.proofs.NameLaws.{status_read}
use Rattle.mp_words.proofs.name_laws.status_is_read.Goals as goal

pub returns : goal.returns
returns c = λ status below. status_read status below
