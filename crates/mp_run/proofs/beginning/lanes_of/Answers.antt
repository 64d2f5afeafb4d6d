use Rattle.std.proofs.Common.{◌≡◌, ◌++◌, ◌∷◌, ◌+◌, [], length, take, refl, sym, ap, ◌∙◌, arith, zero-add}
use Rattle.std.proofs.lemmas.List.{take_more, map-append, length-take-le}
use Rattle.mp_script.specs.declared.script.LanePlan.{LanePlan}
use Rattle.mp_run.specs.Beginning.{first_lane}
use Rattle.mp_run.proofs.TurnLists.{enumerate-more}
use Rattle.mp_run.proofs.beginning.lanes_of.Goals as goal

pub loop-place-preserved : goal.loop-place-preserved
loop-place-preserved c =
    let plans = c.args.plans.now in
    let place = c.loop-place.place in
    let plan : LanePlan = c.index-plans-place.result in
    let len : length (take place plans) ≡ place = length-take-le place plans (omega arith) in
    let taken : take (place + 1) plans ≡ take place plans ++ plan ∷ [] = take_more plans place plan c.loop-place-test.true ∙ ap (λ (p : LanePlan). take place plans ++ p ∷ []) (sym c.index-plans-place.is) in
    let made : c.make_plain.result ≡ first_lane (place, plan) = c.make_plain.ensures.lane ∙ (λ j. first_lane (c.lane_of.ensures j, c.in-Ok.ensures.equal j)) in
    c.in_ok-push.ensures.items ∙ rw (c.loop-place.invariant, taken, enumerate-more 0 (take place plans) plan, len, zero-add place, map-append, made) refl
