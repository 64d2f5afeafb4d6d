use Rattle.std.proofs.Common.{ℕ, ◌<◌, subst}
use Rattle.mp_table.specs.Passes.{table_of}
use Rattle.mp_table.proofs.KeeperKinds.{current_empties}
use Rattle.mp_table.proofs.keeper_steps.keeper_current.Goals as goal

pub store_as-requires-clause-rule : goal.store_as-requires-clause-rule
store_as-requires-clause-rule c =
    let low : c.args.node < 8 = subst (λ (y : ℕ). y < 8) c.get-place.ensures.number c.get-place.ensures.below in
    rw c.get-place.ensures.number (current_empties (table_of c.args.shared.now) c.args.lane c.args.token.now.seat.id c.args.token.now.seat.me.0 c.args.token.now.fits c.args.node low)
