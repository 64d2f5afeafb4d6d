use Rattle.std.proofs.Common.{◌<◌, ◌++◌, map, length, ap, sym, ◌∙◌, append-nil, List, arith}
use Rattle.mp_legal.specs.Turns.{Turn}
use Rattle.mp_run.specs.LaneTurns.{turn_of}
use Rattle.mp_run.proofs.TurnLists.{none_in}
use Rattle.mp_run.proofs.turns.push_turn.Goals as goal

pub returns-clause-exact : goal.returns-clause-exact
returns-clause-exact c =
    let plan = c.args.plan.now in
    let lt : length plan.lines < c.args.round = omega (arith, ap length c.as_slice-lines.ensures) in
    sym (append-nil (map turn_of c.args.turns.now.items)) ∙ ap (λ (ts : List Turn). map turn_of c.args.turns.now.items ++ ts) (sym (none_in c.args.round c.args.lane plan lt))
