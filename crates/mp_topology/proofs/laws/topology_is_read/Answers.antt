use Rattle.mp_topology.proofs.Readable.{read_says, says_read}
use Rattle.mp_topology.proofs.laws.topology_is_read.Goals as goal

pub returns : goal.returns
returns c = λ bytes topology. (read_says bytes topology, says_read bytes topology)
