use Rattle.std.proofs.Common.{sym, subst}
use Rattle.mp_keep.specs.Keeper.{KeeperView, StandsTo}
use Rattle.mp_laps.proofs.keeper_tests.has_room.Goals as goal

pub returns-clause-stands : goal.returns-clause-stands
returns-clause-stands g c =
    let v = (g.S.Steps.core c.args.steps.now).view in
    subst (λ (k : KeeperView). StandsTo k v) (sym c.reserve.ensures.kept) (c.room_leaves_the_keeper.ensures c.args.keeper.now v c.reserve.new.self.spare c.requires)
