use Rattle.std.proofs.Common.{◌≡◌, ◌∙◌, ℕ, List, [], ◌∷◌, true, true≢false, sym, refl, ap}
use Rattle.mp_core.specs.declared.view.Role.{Role}
use Rattle.mp_core.specs.declared.view.Role.TheVariants as role
use Rattle.mp_table.specs.Known.{alone_by}
use Rattle.mp_table.proofs.laws.the_keeper_is_alone_where_all_are_joined.Goals as goal

joined : (out : List ℕ) → alone_by role.Keeper out ≡ true → out ≡ []
joined [] e = refl
joined (l ∷ out) e = absurd (true≢false (sym e))

pub returns : goal.returns
returns c =
    let v = c.args.on.now.pass.token.seat.me.0 in
    let keeper = ap (λ (r : Role). alone_by r v.keeping.out) c.args.on.now.pass.keeps in
    (λ e. joined v.keeping.out (sym keeper ∙ e), λ e. keeper ∙ ap (alone_by role.Keeper) e)
