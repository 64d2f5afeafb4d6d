use Rattle.std.proofs.Common.{◌≡◌, Bool, Option, List, true, false, get_or, set, sym, ap, ◌∙◌, subst}
use Rattle.mp_script.specs.declared.script.Numbered1.{Numbered1}
use Rattle.mp_legal.specs.Inputs.{inputs_for}
use Rattle.mp_legal.specs.Units.{pay_turn}
use Rattle.mp_run.specs.Runner.{IsNew, is_spent, state_by}
use Rattle.mp_run.specs.Turning.{TakesOr, left_or}
use Rattle.mp_run.proofs.TurnTaking.{turn_none, turn_some}
use Rattle.mp_run.proofs.turning.turn.Goals as goal

pub returns-then-spent-place-clause-takes : goal.returns-then-spent-place-clause-takes
returns-then-spent-place-clause-takes c s tied new =
    let t = c.args.turn.now in
    let is : get_or c.args.spent.now t.lane false ≡ true = ap (λ k. get_or c.args.spent.now k false) (sym c.get-place.ensures.number) ∙ c.if-spent-place.true in
    (s, turn_none (inputs_for c.args.world.now c.args.script.now) t.lane t.line c.args.spent.now c.args.runner.now s tied is)

pub returns-clause-takes : goal.returns-clause-takes
returns-clause-takes c s tied new =
    let t = c.args.turn.now in
    let a = c.args.runner.now in
    let spent = c.args.spent.now in
    let i = inputs_for c.args.world.now c.args.script.now in
    let off : get_or spent t.lane false ≡ false = ap (λ k. get_or spent k false) (sym c.get-place.ensures.number) ∙ c.if-spent-place.false in
    let ready = c.requires.ready off in
    let it = c.in_ok-stepped.ensures.takes s tied (subst (λ (l : Option Numbered1). IsNew l s) (sym ready.next) new) in
    let whole = turn_some i t.lane t.line spent c.in_ok-stepped.stepped a c.take_turn.new.self s it.0 c.told-spent tied c.requires.lane off ready.next it.1 in (
      it.0,
      subst (λ (now : List Bool). TakesOr t.lane t.line (pay_turn i t.lane (state_by a s) t.line (left_or spent t.lane a)) spent now a c.take_turn.new.self s it.0)
          (ap (λ k. set spent k (is_spent c.in_ok-stepped.stepped)) (sym c.get-place.ensures.number) ∙ ap (λ (b : Bool). set spent c.get-place.result b) (sym c.is_spent.ensures)) whole,
    )
