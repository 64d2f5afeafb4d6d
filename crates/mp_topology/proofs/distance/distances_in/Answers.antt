use Rattle.std.proofs.Common.{map, rules, arith}
use Rattle.std.specs.Prelude.{unwrap_or}
use Rattle.std.proofs.lemmas.List.{length-map}
use Rattle.toml.specs.View.{view}
use Rattle.mp_topology.specs.Distance.{distance_of}
use Rattle.mp_topology.proofs.Filled.{filled_step}
use Rattle.mp_topology.proofs.Values.{seen, seen_within}
use Rattle.mp_topology.proofs.distance.distances_in.Goals as goal

pub loop-i-preserved : goal.loop-i-preserved
loop-i-preserved c = filled_step 8 0 (λ d. unwrap_or (distance_of d) 0) (map view c.args.items.now) c.loop-i.i (view c.index-items-i.result) _ c.loop-i.row
    (seen_within c.args.items.now c.loop-i.i c.loop-i-test.true) (omega (arith, length-map c.args.items.now view, c.requires)) (seen c.args.items.now c.loop-i.i c.index-items-i.result c.loop-i-test.true c.index-items-i.is)
    c.loop-i.invariant (search rules)
