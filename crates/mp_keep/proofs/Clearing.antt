-- One more current word.
use Rattle.std.proofs.Common.{◌≡◌, ◌∙◌, ℕ, suc, ◌+◌, Option, Some, None, option_map, refl, ap, arith}
use Rattle.mp_core.specs.declared.view.View.{View}
use Rattle.mp_core.specs.Core.{Core, stepped}
use Rattle.mp_core.specs.Memory.{Memory, current_in, cleared_in}
use Rattle.mp_core.specs.Views.{cleared, passed}
use Rattle.mp_core.specs.Kinds.{ClearsCurrent, EmptiesCurrent}
use Rattle.mp_change.specs.Clears.{cleared_upto, cleared_upto_in, emptied_upto_in}
use Rattle.mp_keep.specs.Keeps.{passed_upto}

pub map_both : (f g : Memory → Memory) (t : Option Memory) → option_map f (option_map g t) ≡ option_map (λ m. f (g m)) t
map_both f g None = refl
map_both f g (Some m) = refl

pub map_same : (t : Option Memory) → t ≡ option_map (λ m. m) t
map_same None = refl
map_same (Some m) = refl

-- two steps are one
pub stepped_both : (f h : View → View) (g k : Memory → Memory) (c : Core) → stepped f g (stepped h k c) ≡ stepped (λ v. f (h v)) (λ m. g (k m)) c
stepped_both f h g k c = λ i. record c { view = f (h c.view); told = map_both g k c.told i }

pub cleared_none : (slot : ℕ) (c : Core) → c ≡ stepped (cleared_upto slot 0) (cleared_upto_in slot 0) c
cleared_none slot c = λ i. record c { told = map_same c.told i }

pub cleared_more : (slot n node : ℕ) (a b c : Core) → node ≡ n → b ≡ stepped (cleared_upto slot n) (cleared_upto_in slot n) a → ClearsCurrent b c node slot → c ≡ stepped (cleared_upto slot (n + 1)) (cleared_upto_in slot (n + 1)) a
cleared_more slot n node a b c is h k =
    let e : suc n ≡ n + 1 = omega arith in
    k.after ∙ ap (λ x. stepped (cleared x slot) (cleared_in x slot) b) is ∙ ap (stepped (cleared n slot) (cleared_in n slot)) h
    ∙ stepped_both (cleared n slot) (cleared_upto slot n) (cleared_in n slot) (cleared_upto_in slot n) a
    ∙ ap (λ x. stepped (cleared_upto slot x) (cleared_upto_in slot x) a) e

pub emptied_none : (c : Core) → c ≡ stepped (passed_upto 0) (emptied_upto_in 0) c
emptied_none c = λ i. record c { told = map_same c.told i }

pub emptied_more : (n node : ℕ) (a b c : Core) → node ≡ n → b ≡ stepped (passed_upto n) (emptied_upto_in n) a → EmptiesCurrent b c node → c ≡ stepped (passed_upto (n + 1)) (emptied_upto_in (n + 1)) a
emptied_more n node a b c is h k =
    let e : suc n ≡ n + 1 = omega arith in
    k.after ∙ ap (λ x. stepped passed (current_in x None) b) is ∙ ap (stepped passed (current_in n None)) h
    ∙ stepped_both passed (passed_upto n) (current_in n None) (emptied_upto_in n) a
    ∙ ap (λ x. stepped (passed_upto x) (emptied_upto_in x) a) e
