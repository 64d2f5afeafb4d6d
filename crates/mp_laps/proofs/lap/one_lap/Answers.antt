use Rattle.std.proofs.Common.{subst}
use Rattle.mp_submit.specs.declared.submit.Submitted.{Submitted}
use Rattle.mp_submit.specs.declared.finish.Finished.{Finished}
use Rattle.mp_submit.specs.Submits.{Submits}
use Rattle.mp_submit.specs.Finishes.{Finishes}
use Rattle.mp_laps.proofs.Lapping.{is_sent, still_flies, lap_done, lap_moved, lap_back}
use Rattle.mp_laps.proofs.lap.one_lap.Goals as goal

pub finish-requires-clause-sent : goal.finish-requires-clause-sent
finish-requires-clause-sent g c =
    let a = g.S.Steps.core c.args.steps.now in
    let b = g.S.Steps.core c.submit.new.steps in
    is_sent c.args.near.now a b c.args.request.now c.submit.new.request c.in-Sent.flight c.submit.ensures.0
    (subst (λ (r : Submitted). Submits c.args.near.now a b c.args.request.now c.submit.new.request r c.submit.ensures.0) c.in-Sent.is c.submit.ensures.1)

pub end-requires : goal.end-requires
end-requires g c =
    let a = g.S.Steps.core c.args.steps.now in
    let b = g.S.Steps.core c.submit.new.steps in
    let d = g.S.Steps.core c.finish.new.steps in
    record {
      flies =
          still_flies c.args.near.now c.args.answers.now a b d c.args.request.now c.submit.new.request c.finish.new.request c.in-Sent.flight c.in-Moved.flight c.in-Moved.field-1 c.in-Moved.field-2 c.submit.ensures.0
          (subst (λ (r : Submitted). Submits c.args.near.now a b c.args.request.now c.submit.new.request r c.submit.ensures.0) c.in-Sent.is c.submit.ensures.1)
          (subst (λ (r : Finished). Finishes c.args.answers.now b d c.in-Sent.flight c.submit.new.request c.finish.new.request r) c.in-Moved.is c.finish.ensures);
    }

pub returns-in-Done : goal.returns-in-Done
returns-in-Done g c =
    let a = g.S.Steps.core c.args.steps.now in
    let b = g.S.Steps.core c.submit.new.steps in
    let d = g.S.Steps.core c.finish.new.steps in
    lap_done c.args.near.now c.args.answers.now a b d c.args.request.now c.submit.new.request c.finish.new.request c.in-Sent.flight c.submit.ensures.0 c.in-Done.status
    (subst (λ (r : Submitted). Submits c.args.near.now a b c.args.request.now c.submit.new.request r c.submit.ensures.0) c.in-Sent.is c.submit.ensures.1)
    (subst (λ (r : Finished). Finishes c.args.answers.now b d c.in-Sent.flight c.submit.new.request c.finish.new.request r) c.in-Done.is c.finish.ensures)

pub returns-in-Back : goal.returns-in-Back
returns-in-Back g c =
    let a = g.S.Steps.core c.args.steps.now in
    let b = g.S.Steps.core c.submit.new.steps in
    let d = g.S.Steps.core c.finish.new.steps in
    lap_back c.args.near.now c.args.answers.now a b d c.args.request.now c.submit.new.request c.finish.new.request c.in-Sent.flight c.in-Back.field-0 c.submit.ensures.0
    (subst (λ (r : Submitted). Submits c.args.near.now a b c.args.request.now c.submit.new.request r c.submit.ensures.0) c.in-Sent.is c.submit.ensures.1)
    (subst (λ (r : Finished). Finishes c.args.answers.now b d c.in-Sent.flight c.submit.new.request c.finish.new.request r) c.in-Back.is c.finish.ensures)

pub returns-in-Moved : goal.returns-in-Moved
returns-in-Moved g c =
    let a = g.S.Steps.core c.args.steps.now in
    let b = g.S.Steps.core c.submit.new.steps in
    let d = g.S.Steps.core c.finish.new.steps in
    lap_moved c.args.near.now c.args.answers.now a b d (g.S.Steps.core c.end.new.self) c.args.request.now c.submit.new.request c.finish.new.request c.in-Sent.flight c.in-Moved.flight c.in-Moved.field-1 c.in-Moved.field-2 c.submit.ensures.0
    (subst (λ (r : Submitted). Submits c.args.near.now a b c.args.request.now c.submit.new.request r c.submit.ensures.0) c.in-Sent.is c.submit.ensures.1)
    (subst (λ (r : Finished). Finishes c.args.answers.now b d c.in-Sent.flight c.submit.new.request c.finish.new.request r) c.in-Moved.is c.finish.ensures)
    c.end.ensures
