use Rattle.std.proofs.Common.{map, [], arith}
use Rattle.std.proofs.lemmas.List.{length-map}
use Rattle.std.proofs.lemmas.Result.{err_from_is_err_and}
use Rattle.toml.specs.View.{view}
use Rattle.mp_checks.proofs.CheckLaws.{each_more, each_stops}
use Rattle.mp_topology.specs.Distance.{row_checks, row_value, filled, grid}
use Rattle.mp_topology.proofs.Filled.{filled_step}
use Rattle.mp_topology.proofs.Values.{seen, seen_within}
use Rattle.mp_topology.proofs.distance.rows_in.Goals as goal

pub returns-in_err-row : goal.returns-in_err-row
returns-in_err-row c =
    let p = err_from_is_err_and c.from_residual.result c.from_residual.ensures.1 in
    rw (p.1, p.2) (λ n. each_stops (row_checks c.args.nodes) (map view c.args.items.now) c.loop-i.i (view c.index-items-i.result) (view c.index-items-i.result) _
    (seen_within c.args.items.now c.loop-i.i c.loop-i-test.true) (seen c.args.items.now c.loop-i.i c.index-items-i.result c.loop-i-test.true c.index-items-i.is) c.loop-i.invariant.pass (c.in_err-row.ensures n))

pub loop-i-preserved : goal.loop-i-preserved
unfolding grid
loop-i-preserved c = record {
  pass = each_more (row_checks c.args.nodes) (map view c.args.items.now) c.loop-i.i (view c.index-items-i.result) (view c.index-items-i.result)
      (seen_within c.args.items.now c.loop-i.i c.loop-i-test.true) (seen c.args.items.now c.loop-i.i c.index-items-i.result c.loop-i-test.true c.index-items-i.is) c.loop-i.invariant.pass c.in_ok-row.ensures.0;
  rows = filled_step 8 (filled 8 0 []) row_value (map view c.args.items.now) c.loop-i.i (view c.index-items-i.result) c.in_ok-row.row c.loop-i.rows
      (seen_within c.args.items.now c.loop-i.i c.loop-i-test.true) (omega (arith, length-map c.args.items.now view, c.requires.few)) (seen c.args.items.now c.loop-i.i c.index-items-i.result c.loop-i-test.true c.index-items-i.is)
      c.loop-i.invariant.rows c.in_ok-row.ensures.1;
}
