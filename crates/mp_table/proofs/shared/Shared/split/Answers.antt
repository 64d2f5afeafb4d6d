use Rattle.std.proofs.Common.{◌∙◌, ap, sym, subst, arith}
use Rattle.mp_core.specs.declared.view.View.{View}
use Rattle.mp_table.specs.Known.{Fits}
use Rattle.mp_table.proofs.Ends.{kept_fits}
use Rattle.mp_table.proofs.shared.Shared.split.Goals as goal

pub invariant_of-token : goal.invariant_of-token
invariant_of-token c =
    let t = c.args.pass.now.token in
    let kept = ap (λ m. m.0) c.split_as-seat.ensures.kept in
    let units = t.units in
    let left = ap (λ (v : View). v.left) kept in
    record {
      units = omega arith;
      empty = ap (λ m. m.1) c.split_as-seat.ensures.kept ∙ t.empty;
      fits = subst Fits (sym kept) (kept_fits c.args.lane c.args.allowance t.seat.me.0 c.requires.units t.fits);
    }
