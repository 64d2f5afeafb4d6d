use Rattle.mp_topology.specs.Distance.{row_of}
use Rattle.mp_topology.proofs.Seen.{array_seen}
use Rattle.mp_topology.proofs.distance.row_of.Goals as goal

pub returns : goal.returns
unfolding row_of
returns c = array_seen c.as_array.result _ c.as_array.ensures
