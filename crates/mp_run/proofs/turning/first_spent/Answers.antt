use Rattle.std.proofs.Common.{Bool, true, false, Some, ◌∙◌, ap, refl, sym, arith}
use Rattle.std.proofs.lemmas.List.{get_or_default}
use Rattle.mp_run.proofs.Keepers.{first_at, first_none}
use Rattle.mp_run.proofs.turning.first_spent.Goals as goal

pub returns-then-spent-place : goal.returns-then-spent-place
returns-then-spent-place c =
    let spent = c.args.spent.now in
    let place = c.loop-place.place in
    ap (λ n. Some n) c.lane_of.ensures
    ∙ first_at (λ (s : Bool). s) spent place true (omega (arith, c.told-spent, c.loop-place-test.true)) c.loop-place.invariant
    (sym c.if-spent-place.true ∙ get_or_default spent place false true (omega (arith, c.told-spent, c.loop-place-test.true))) refl

pub returns : goal.returns
returns c = first_none (λ (s : Bool). s) c.args.spent.now c.loop-place.place (omega (arith, c.told-spent, c.loop-place-test.false)) c.loop-place.invariant
