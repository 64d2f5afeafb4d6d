use Rattle.std.proofs.Common.{◌≡◌, None, take, map}
use Rattle.toml.specs.View.{view}
use Rattle.mp_checks.specs.Checks.{first_fault, each_from}
use Rattle.mp_topology.specs.Distance.{row_checks, row_value, grid}
use Rattle.mp_topology.proofs.distance.rows_in.Given as goal

abbrev pub invariant-loop-i : goal.invariant-loop-i
invariant-loop-i l = record {
  pass : first_fault (each_from (row_checks l.nodes) 0 (take l.i (map view l.items))) ≡ None;
  rows : l.rows ≡ grid (map row_value (take l.i (map view l.items)));
}
