use Rattle.std.proofs.Common.{refl}
use Rattle.mp_topology.specs.Fields.{list_at}
use Rattle.mp_topology.proofs.Seen.{list_seen}
use Rattle.mp_topology.proofs.fields.list_at.Goals as goal

pub returns-in-Some : goal.returns-in-Some
returns-in-Some c = list_seen c.args.key.now _ c.in-Some.value.now c.as_array.result c.in-Some.ensures c.as_array.ensures

pub returns-in-None : goal.returns-in-None
unfolding list_at
returns-in-None c = rw (← c.in-None.ensures) refl
