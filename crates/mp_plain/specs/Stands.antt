-- What holds of the words and of what all lanes know, between any two steps.
use Rattle.std.specs.Prelude.{◌≡◌, ℕ, ◌<◌, ◌≤◌, List, length, map}
use lib.ListN.{get_elem?}
use mathlib.Core.Option.{some}
use Rattle.mp_core.specs.declared.view.Start.{Start}
use Rattle.mp_core.specs.declared.view.Role.TheVariants as role
use Rattle.mp_core.specs.declared.view.Seats.{Seats}
use Rattle.mp_core.specs.declared.view.View.{View}
use Rattle.mp_core.specs.Memory.{Memory, row_at}
use Rattle.mp_core.specs.Views.{seen_row}
use Rattle.mp_rule.specs.Holds.{Holds}
use Rattle.mp_plain.specs.declared.ledger.Ruled.{Ruled}
use Rattle.mp_plain.specs.Lanes.{begun, views_of}

-- What the rule is told of a lane is so: it has the same units, open section and flights. The lane steps the one
-- keeper's part, and has seen nothing newer than the words.
pub record Mirrors (start : Start) (m : Memory) (v w : View) : Type 0 where
  pub keeper : v.role ≡ role.Keeper
  pub keeping : v.keeping ≡ begun start
  pub left : w.left ≡ v.left
  pub inside : w.inside ≡ v.inside
  pub flights : w.flights ≡ v.flights
  pub order : v.seen.order ≤ m.order.version
  pub rows : (s : ℕ) → seen_row v s ≤ (row_at m s).version

-- The rule holds of the words and of what it is told, and what it is told of each lane is so.
pub record Stands (m : Memory) (r : Ruled) : Type 0 where
  pub holds : Holds r.seats.keeping.start m (views_of r)
  pub room : r.seats.keeping.start.units < 1073741824
  pub seats : length r.seats.lanes ≡ 17
  pub parts : length r.lanes ≡ 17
  pub mirrors : (i : ℕ) (v w : View) → get_elem? r.seats.lanes i ≡ some v → get_elem? r.lanes i ≡ some w → Mirrors r.seats.keeping.start m v w

-- the units that each lane has left
abbrev pub units_of : Seats → List ℕ
units_of s = map (λ (v : View). v.left) s.lanes
