use Rattle.std.proofs.Common.{ap, sym, subst}
use Rattle.mp_table.specs.Known.{RowsFit}
use Rattle.mp_table.proofs.Ends.{joined_rows}
use Rattle.mp_table.proofs.shared.Shared.join.Goals as goal

pub tell-requires-clause-rows : goal.tell-requires-clause-rows
tell-requires-clause-rows c =
    let t = c.args.pass.now.token in
    subst RowsFit (sym (ap (λ m. m.0) c.join_as.ensures.view)) (joined_rows t.seat.me.0 c.args.other.token.seat.me.0 t.fits.rows)
