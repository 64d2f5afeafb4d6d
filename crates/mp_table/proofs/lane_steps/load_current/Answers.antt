use Rattle.std.proofs.Common.{ℕ, ◌<◌, subst}
use Rattle.mp_table.specs.Passes.{table_of}
use Rattle.mp_table.proofs.LaneKinds.{current_loads}
use Rattle.mp_table.proofs.lane_steps.load_current.Goals as goal

pub read_as-found-requires-clause-rule : goal.read_as-found-requires-clause-rule
read_as-found-requires-clause-rule c =
    let low : c.args.node < 8 = subst (λ (y : ℕ). y < 8) c.get-place.ensures.number c.get-place.ensures.below in
    rw c.get-place.ensures.number (current_loads (table_of c.args.shared.now) c.args.lane c.args.token.now.seat.id c.args.token.now.seat.me.0 c.args.token.now.fits c.args.section.now c.args.node low c.requires.open)
