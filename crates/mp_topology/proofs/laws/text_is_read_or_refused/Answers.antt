use Rattle.mp_topology.proofs.Readable.{read_or_refused}
use Rattle.mp_topology.proofs.laws.text_is_read_or_refused.Goals as goal

pub returns : goal.returns
returns c = λ bytes. read_or_refused bytes
