use Rattle.mp_keep.proofs.Clearing.{cleared_none, cleared_more}
use Rattle.mp_keep.proofs.clear.clear_slot.Goals as goal

pub loop-n-init : goal.loop-n-init
loop-n-init g c = cleared_none c.args.slot (g.S.Steps.core c.args.steps.now)

pub loop-n-preserved : goal.loop-n-preserved
loop-n-preserved g c = cleared_more c.args.slot c.loop-n.n c.node_at.result (g.S.Steps.core c.args.steps.now) (g.S.Steps.core c.loop-n.steps) (g.S.Steps.core c.clear_current.new.self) c.node_at.ensures c.loop-n.invariant c.clear_current.ensures
