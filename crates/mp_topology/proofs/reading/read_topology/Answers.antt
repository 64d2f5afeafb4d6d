use Rattle.std.proofs.Common.{rules}
use Rattle.toml.specs.View.{table_view}
use Rattle.mp_topology.proofs.Gives.{table_gives, no_table_gives, if_read}
use Rattle.mp_topology.proofs.Facts.{is_topology}
use Rattle.mp_topology.specs.Facts.{IsTopology}
use Rattle.mp_topology.proofs.reading.read_topology.Goals as goal

pub returns-in-Ok-clause-gives : goal.returns-in-Ok-clause-gives
returns-in-Ok-clause-gives c = table_gives c.args.bytes.now (table_view c.in-Ok.table) c.topology_of.result c.in-Ok.ensures.ok.0 c.in-Ok.ensures.ok.1 c.topology_of.ensures

pub returns-else-is_memory-clause-gives : goal.returns-else-is_memory-clause-gives
returns-else-is_memory-clause-gives c = λ n. no_table_gives c.args.bytes.now (c.in-Err.ensures.refused (search (rules, c.if-is_memory.ensures)))

pub returns-in-Ok-clause-read : goal.returns-in-Ok-clause-read
returns-in-Ok-clause-read c = if_read IsTopology (table_view c.in-Ok.table) c.topology_of.result (is_topology (table_view c.in-Ok.table)) c.topology_of.ensures
