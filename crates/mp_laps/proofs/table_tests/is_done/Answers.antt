use Rattle.std.proofs.Common.{subst}
use Rattle.mp_submit.specs.declared.finish.Finished.{Finished}
use Rattle.mp_submit.specs.Finishes.{Finishes}
use Rattle.mp_laps.proofs.Tabling.{finish_comes}
use Rattle.mp_laps.proofs.table_tests.is_done.Goals as goal

pub returns-in-Done : goal.returns-in-Done
returns-in-Done g c =
    let a = g.S.Steps.core c.args.steps.now in
    let b = g.S.Steps.core c.finish.new.steps in
    λ _. finish_comes c.args.answers.now a b c.args.flight c.args.request.now c.finish.new.request c.in-Done.status c.requires.closed
    (subst (λ (r : Finished). Finishes c.args.answers.now a b c.args.flight c.args.request.now c.finish.new.request r) c.in-Done.is c.finish.ensures)
