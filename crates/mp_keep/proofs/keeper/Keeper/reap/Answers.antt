use Rattle.mp_keep.proofs.Answering.{begins_walk, reaps}
use Rattle.mp_keep.proofs.keeper.Keeper.reap.Goals as goal

pub walk-requires-clause-may : goal.walk-requires-clause-may
walk-requires-clause-may g c = begins_walk c.args.self.now (g.S.Steps.core c.args.steps.now).view c.requires.stands c.requires.left c.requires.spare

pub returns : goal.returns
returns g c =
    reaps c.args.self.now c.walk.new.self (g.S.Steps.core c.args.steps.now) (g.S.Steps.core c.walk.new.steps) c.args.by c.walk.result c.requires.stands c.requires.left c.requires.spare c.requires.closed c.walk.ensures
