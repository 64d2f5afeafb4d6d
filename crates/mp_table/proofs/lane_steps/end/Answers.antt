use Rattle.std.proofs.Common.{ℕ, ◌<◌, subst}
use Rattle.mp_table.specs.Passes.{table_of}
use Rattle.mp_table.proofs.LaneKinds.{flight_ends}
use Rattle.mp_table.proofs.lane_steps.end.Goals as goal

pub land_as-requires-clause-rule : goal.land_as-requires-clause-rule
land_as-requires-clause-rule c =
    let low : c.args.flight.slot < 15 = subst (λ (y : ℕ). y < 15) c.get-place.ensures.number c.get-place.ensures.below in
    rw c.get-place.ensures.number (flight_ends (table_of c.args.shared.now) c.args.lane c.args.token.now.seat.id c.args.token.now.seat.me.0 c.args.token.now.fits c.args.flight low c.requires.flies)
