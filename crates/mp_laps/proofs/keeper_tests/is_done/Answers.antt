use Rattle.std.proofs.Common.{subst}
use Rattle.mp_submit.specs.declared.finish.Finished.{Finished}
use Rattle.mp_submit.specs.Finishes.{Finishes}
use Rattle.mp_plain.specs.Told.{told_core}
use Rattle.mp_laps.proofs.Keeping.{finish_stands}
use Rattle.mp_laps.proofs.keeper_tests.is_done.Goals as goal

pub returns-in-Done : goal.returns-in-Done
returns-in-Done c =
    let a = told_core c.args.plain.now in
    let b = told_core c.finish.new.steps in
    λ _. finish_stands c.args.keeper.now c.args.answers.now a b c.args.flight c.args.request.now c.finish.new.request c.in-Done.status
    (λ v w. c.a_keeper_still_stands.ensures c.args.keeper.now v w)
    c.requires.stands c.requires.closed
    (subst (λ (r : Finished). Finishes c.args.answers.now a b c.args.flight c.args.request.now c.finish.new.request r) c.in-Done.is c.finish.ensures)
