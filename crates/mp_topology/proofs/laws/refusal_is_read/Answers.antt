use Rattle.mp_topology.proofs.Readable.{read_refused, refused_read}
use Rattle.mp_topology.proofs.laws.refusal_is_read.Goals as goal

pub returns : goal.returns
returns c = λ bytes refusal. (read_refused bytes refusal, refused_read bytes refusal)
