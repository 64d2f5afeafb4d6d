-- What the rule means for those who call the table.
use Rattle.std.specs.Prelude.{◌≡◌, ℕ, ◌<◌, false, List, ◌∷◌, ◌++◌}
use Rattle.mp_core.specs.declared.view.Event.{Event}
use Rattle.mp_core.specs.declared.view.Event.TheVariants.{Scans}
use Rattle.mp_core.specs.declared.view.View.{View}
use Rattle.mp_core.specs.Memory.{Memory}
use Rattle.mp_core.specs.Status.{lists}
use Rattle.mp_core.specs.Views.{flying}
use Rattle.mp_rule.specs.Rule.{Each, keeping, in_order, Opened}

-- A slot that is given a path: no open section's list of paths has it, no flight is on it, and a section whose ticket
-- is below a closing of its side is over.
pub record GiveIsSafe (s : ℕ) (m : Memory) (views : List View) : Type 0 where
  pub unlisted : lists s m.order ≡ false
  pub unread : Each (λ _ v. Opened (λ n. in_order s n.order ≡ false) v) views
  pub empty : Each (λ _ v. flying s v ≡ 0) views
  pub over : (x e o : ℕ) (newer older : List Event) → keeping views ≡ newer ++ Scans x e o ∷ older → Each (λ _ v. Opened (λ n. n.side ≡ x → n.ticket < e → ⊥) v) views
