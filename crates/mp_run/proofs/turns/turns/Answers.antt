use Rattle.std.proofs.Common.{◌++◌, ap, sym, ◌∙◌, List}
use Rattle.mp_legal.specs.Turns.{Turn, round_of}
use Rattle.mp_run.proofs.TurnLists.{rounds_more}
use Rattle.mp_run.proofs.turns.turns.Goals as goal

pub loop-round-preserved : goal.loop-round-preserved
loop-round-preserved c =
    let plans = c.args.plans.now in
    c.in_ok-push_round.ensures.exact
    ∙ ap (λ (ts : List Turn). ts ++ round_of plans c.loop-round.round) c.loop-round.invariant
    ∙ sym (rounds_more (round_of plans) c.loop-round.round)
