use Rattle.std.proofs.Common.{ℕ, ◌<◌, subst}
use Rattle.mp_table.specs.Passes.{table_of}
use Rattle.mp_table.proofs.LaneKinds.{depth_loads}
use Rattle.mp_table.proofs.lane_steps.load_depth.Goals as goal

pub read_as-depth-requires-clause-rule : goal.read_as-depth-requires-clause-rule
read_as-depth-requires-clause-rule c =
    let low : c.args.slot < 15 = subst (λ (y : ℕ). y < 15) c.get-place.ensures.number c.get-place.ensures.below in
    rw c.get-place.ensures.number (depth_loads (table_of c.args.shared.now) c.args.lane c.args.token.now.seat.id c.args.token.now.seat.me.0 c.args.token.now.fits c.args.section.now c.args.slot low c.requires.open)
