-- A step of a pass at which the rule holds.
use Rattle.std.specs.Prelude.{◌≡◌, ℕ, List}
use mathlib.Core.Option.{some}
use lib.ListN.{get_elem?, set}
use Rattle.mp_core.specs.declared.view.Start.{Start}
use Rattle.mp_core.specs.declared.view.View.{View}
use Rattle.mp_core.specs.Core.{Core}
use Rattle.mp_core.specs.Memory.{Memory}
use Rattle.mp_rule.specs.Holds.{Holds}
use Rattle.mp_rule.specs.Promises.{IsUntold}

-- The rule holds, the pass is the view at this place, and its words aren't told.
pub record At (start : Start) (id : ℕ) (a : Core) (m : Memory) (views : List View) : Type 0 where
  pub rule : Holds start m views
  pub here : get_elem? views id ≡ some a.view
  pub untold : IsUntold a

-- The rule holds of the words and views after the pass knows this.
abbrev pub After : Start → ℕ → Core → Memory → List View → Type 0
After start id b n views = Holds start n (set views id b.view)
