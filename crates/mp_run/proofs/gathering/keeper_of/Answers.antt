use Rattle.std.proofs.Common.{◌∙◌, Some, ap, arith}
use Rattle.mp_script.specs.declared.script.LanePlan.{LanePlan}
use Rattle.mp_run.proofs.Keepers.{first_at, first_none}
use Rattle.mp_run.proofs.gathering.keeper_of.Goals as goal

pub returns-then-plan : goal.returns-then-plan
returns-then-plan c =
    ap (λ n. Some n) c.lane_of.ensures ∙ first_at (λ (plan : LanePlan). plan.keeper) c.args.plans.now c.loop-place.place c.index-plans-place.result c.loop-place-test.true c.loop-place.invariant c.index-plans-place.is c.if-plan.true

pub returns : goal.returns
returns c = first_none (λ (plan : LanePlan). plan.keeper) c.args.plans.now c.loop-place.place (omega arith) c.loop-place.invariant
