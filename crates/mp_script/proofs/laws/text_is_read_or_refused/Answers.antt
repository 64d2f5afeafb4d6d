use Rattle.mp_script.proofs.Readable.{read_or_refused}
use Rattle.mp_script.proofs.laws.text_is_read_or_refused.Goals as goal

pub returns : goal.returns
returns c = λ t pages bytes. read_or_refused t pages bytes
