use Rattle.std.proofs.Common.{ap}
use Rattle.mp_core.specs.declared.view.Role.{Role}
use Rattle.mp_table.specs.Known.{alone_by}
use Rattle.mp_table.proofs.laws.a_lane_is_never_alone.Goals as goal

pub returns : goal.returns
returns c =
    let v = c.args.on.now.pass.token.seat.me.0 in
    ap (λ (r : Role). alone_by r v.keeping.out) c.args.on.now.pass.named
