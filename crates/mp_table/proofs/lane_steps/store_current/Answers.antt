use Rattle.std.proofs.Common.{ℕ, ◌<◌, subst}
use Rattle.mp_table.specs.Passes.{table_of}
use Rattle.mp_table.proofs.LaneKinds.{current_stores}
use Rattle.mp_table.proofs.lane_steps.store_current.Goals as goal

pub keep_current_as-requires-clause-rule : goal.keep_current_as-requires-clause-rule
keep_current_as-requires-clause-rule c =
    let low : c.args.node < 8 = subst (λ (y : ℕ). y < 8) c.get-place.ensures.number c.get-place.ensures.below in
    rw c.get-place.ensures.number (current_stores (table_of c.args.shared.now) c.args.lane c.args.token.now.seat.id c.args.token.now.seat.me.0 c.args.token.now.fits c.args.section.now c.args.node c.current_word-word.result c.args.slot.now low c.requires.open c.requires.enabled c.current_word-word.ensures)
