use Rattle.std.proofs.Common.{ℕ, ◌<◌, subst, ◌∙◌}
use Rattle.mp_table.specs.Passes.{table_of}
use Rattle.mp_table.proofs.LaneKinds.{current_clears}
use Rattle.mp_table.proofs.lane_steps.clear_current.Goals as goal

pub clear_as-requires-clause-rule : goal.clear_as-requires-clause-rule
clear_as-requires-clause-rule c =
    let low : c.args.node < 8 = subst (λ (y : ℕ). y < 8) c.get-place.ensures.number c.get-place.ensures.below in
    rw c.get-place.ensures.number (rw (c.from-from.ensures ∙ c.get.ensures.number) (current_clears (table_of c.args.shared.now) c.args.lane c.args.token.now.seat.id c.args.token.now.seat.me.0 c.args.token.now.fits c.args.node c.args.slot low))
