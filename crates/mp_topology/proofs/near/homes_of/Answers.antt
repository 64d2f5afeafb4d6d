use Rattle.std.proofs.Common.{None, rules}
use Rattle.mp_topology.specs.Near.{homes_of}
use Rattle.mp_topology.proofs.Filled.{filled_step}
use Rattle.mp_topology.proofs.near.homes_of.Goals as goal

pub loop-i-preserved : goal.loop-i-preserved
unfolding homes_of
loop-i-preserved c = filled_step 64 None (λ x. x.node) c.args.controllers.now c.loop-i.i c.index-controllers-i.result _ c.loop-i.homes
    c.loop-i-test.true c.requires c.index-controllers-i.is c.loop-i.invariant (search rules)
