use Rattle.mp_keep.proofs.Clearing.{emptied_none, emptied_more}
use Rattle.mp_keep.proofs.clear.clear_all.Goals as goal

pub loop-n-init : goal.loop-n-init
loop-n-init g c = emptied_none (g.S.Steps.core c.args.steps.now)

pub loop-n-preserved : goal.loop-n-preserved
loop-n-preserved g c = emptied_more c.loop-n.n c.node_at.result (g.S.Steps.core c.args.steps.now) (g.S.Steps.core c.loop-n.steps) (g.S.Steps.core c.keeper_current.new.self) c.node_at.ensures c.loop-n.invariant c.keeper_current.ensures
