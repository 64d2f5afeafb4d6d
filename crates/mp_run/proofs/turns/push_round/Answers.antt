use Rattle.std.proofs.Common.{◌++◌, map, take, ap, sym, ◌∙◌, append_assoc, List, ℕ}
use Rattle.mp_legal.specs.Turns.{Turn, turn_in, round_of}
use Rattle.mp_run.specs.LaneTurns.{turn_of}
use Rattle.mp_run.proofs.TurnLists.{round_more}
use Rattle.mp_run.proofs.turns.push_round.Goals as goal

pub loop-lane-preserved : goal.loop-lane-preserved
loop-lane-preserved c =
    let plans = c.args.plans.now in
    let lane = c.loop-lane.lane in
    let plan = c.index-plans-lane.result in
    let old = map turn_of c.args.turns.now.items in
    c.in_ok-push_turn.ensures.exact
    ∙ ap (λ (n : ℕ). map turn_of c.loop-lane.turns.items ++ turn_in c.args.round (n, plan)) c.lane_of.ensures
    ∙ ap (λ (ts : List Turn). ts ++ turn_in c.args.round (lane, plan)) c.loop-lane.invariant
    ∙ append_assoc old (round_of (take lane plans) c.args.round) (turn_in c.args.round (lane, plan))
    ∙ ap (λ (ts : List Turn). old ++ ts) (sym (round_more plans lane c.args.round plan c.loop-lane-test.true c.index-plans-lane.is))
