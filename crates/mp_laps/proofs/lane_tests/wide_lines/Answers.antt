use Rattle.std.proofs.Common.{refl}
use Rattle.mp_laps.proofs.Laning.{one_more}
use Rattle.mp_laps.proofs.lane_tests.wide_lines.Goals as goal

pub returns : goal.returns
returns c =
    one_more _ _ _ _ c.in_ok-push-4.ensures.items c.at-4.ensures refl
    (one_more _ _ _ _ c.in_ok-push-3.ensures.items c.at-3.ensures refl
    (one_more _ _ _ _ c.in_ok-push-2.ensures.items c.at-2.ensures refl c.loop-number.invariant))
