use Rattle.mp_script.proofs.Readable.{read_refused, refused_read}
use Rattle.mp_script.proofs.laws.refusal_is_read.Goals as goal

pub returns : goal.returns
returns c = λ t pages bytes refusal. (read_refused t pages bytes refusal, refused_read t pages bytes refusal)
