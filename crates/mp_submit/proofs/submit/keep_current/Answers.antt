use Rattle.std.proofs.Common.{◌≡◌, ◌∙◌, ℕ, Bool, true, false, Option, Some, sym, refl}
use Rattle.mp_submit.proofs.Selecting.{kept_stays}
use Rattle.mp_submit.proofs.submit.keep_current.Goals as goal
use Rattle.mp_submit.proofs.submit.keep_current.Goals.{else-keeps-via-then-keeps+else-not-is_current, else-keeps-via-else-keeps}

inj : (a b : Option ℕ) → Some a ≡ Some b → a ≡ b
inj a b e = cc

not_both : (b : Bool) → b ≡ true → b ≡ false → ⊥
not_both b x y = cc

pub returns-else-keeps : goal.returns-else-keeps
returns-else-keeps g c =
    let a = g.S.Steps.core c.args.steps.now in
    elim c.else-keeps.branch [
      | else-keeps-via-then-keeps+else-not-is_current w ↦ (let told = kept_stays c.args.keeps c.args.node c.args.slot a.told (λ on m e. inj _ _ (sym (c.requires.current on m e) ∙ w.is_current.ensures w.if-not-is_current.false)) in record { section = refl; after = λ i. record a { view = c.requires.open i; told = told i } })
      | else-keeps-via-else-keeps w ↦ (let told = kept_stays c.args.keeps c.args.node c.args.slot a.told (λ on m e. absurd (not_both _ on w.if-keeps.false)) in record { section = refl; after = λ i. record a { view = c.requires.open i; told = told i } })
    ]
