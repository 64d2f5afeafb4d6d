-- What a pass knows of itself, and the words where they are told.
use Rattle.std.specs.Prelude.{◌≡◌, ℕ, Bool, List, Option, Some, option_map}
use Rattle.atomic_table.specs.Seated.{TableId}
use Rattle.mp_core.specs.declared.view.View.{View}
use Rattle.mp_core.specs.Memory.{Memory}

-- What a pass knows: the table, its lane, whether no other lane is out, and the views that stand beside its own, all
-- of which no step changes; its view; and the words, where they are told.
pub record Core : Type 0 where
  pub home : TableId
  pub lane : ℕ
  pub alone : Bool
  pub others : List View
  pub view : View
  pub told : Option Memory

-- what a pass knows after a step that changes its view and the words so
abbrev pub stepped : (View → View) → (Memory → Memory) → Core → Core
stepped of_view of_words c = record c { view = of_view c.view; told = option_map of_words c.told }

-- what a pass knows after a step that changes its view alone
abbrev pub looked : (View → View) → Core → Core
looked of_view c = record c { view = of_view c.view }

-- A fact of the words, where they are told.
abbrev pub Tells : Core → (Memory → Type 0) → Type 0
Tells c P = (m : Memory) → c.told ≡ Some m → P m
