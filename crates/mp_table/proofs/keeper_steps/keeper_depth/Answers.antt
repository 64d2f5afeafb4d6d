use Rattle.std.proofs.Common.{ℕ, ◌<◌, subst}
use Rattle.mp_table.specs.Passes.{table_of}
use Rattle.mp_table.proofs.KeeperKinds.{depth_looks}
use Rattle.mp_table.proofs.keeper_steps.keeper_depth.Goals as goal

pub load_as-requires-clause-rule : goal.load_as-requires-clause-rule
load_as-requires-clause-rule c =
    let low : c.args.slot < 15 = subst (λ (y : ℕ). y < 15) c.get-place.ensures.number c.get-place.ensures.below in
    rw c.get-place.ensures.number (depth_looks (table_of c.args.shared.now) c.args.lane c.args.token.now.seat.id c.args.token.now.seat.me.0 c.args.token.now.fits c.args.slot low c.requires.keeper)
