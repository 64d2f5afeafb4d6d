use Rattle.std.proofs.Common.{◌∙◌, ℕ, ◌-◌, ap, arith}
use Rattle.mp_core.specs.Core.{Core}
use Rattle.mp_laps.proofs.Lapping.{end_left}
use Rattle.mp_laps.proofs.tests.go.Goals as goal

pub returns-clause-left : goal.returns-clause-left
returns-clause-left g c =
    let less = ap (λ (x : Core). x.view.left) c.change-end.ensures.1.view ∙ ap (λ (n : ℕ). n - 1) (end_left c.change-end.result.end (g.S.Steps.core c.args.steps.now).view) in
    let some = c.requires.left in
    omega arith
