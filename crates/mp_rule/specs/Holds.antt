-- The table's rule: what holds of the words and all views, between any two steps.
use Rattle.std.specs.Prelude.{◌≡◌, ℕ, List, length}
use Rattle.mp_words.specs.declared.row.Row.{Row}
use Rattle.mp_words.specs.Facts.{IsRow, IsOrder}
use Rattle.mp_core.specs.declared.view.Start.{Start}
use Rattle.mp_core.specs.declared.view.View.{View}
use Rattle.mp_core.specs.Memory.{Memory, row_at}
use Rattle.mp_core.specs.Unpacked.{unpacked, start_order}
use Rattle.mp_rule.specs.Rule.{Each, keeping, cells_of, first_of, Keeps}
use Rattle.mp_rule.specs.History.{RowsAt, ViewOrder, LaneEntries}
use Rattle.mp_rule.specs.Sums.{Sums, Lanes}

-- the row of a slot at the start
abbrev pub start_row : Start → ℕ → Row
start_row s slot = row_at (unpacked s.words) slot

-- There are two sides, fifteen rows and depths, and eight current words.
pub record IsSized (m : Memory) : Type 0 where
  pub sides : length m.sides ≡ 2
  pub rows : length m.rows ≡ 15
  pub depths : length m.depths ≡ 15
  pub currents : length m.currents ≡ 8

-- The table's rule: what holds of the words and all views between any two steps.
pub record Holds (start : Start) (m : Memory) (views : List View) : Type 0 where
  pub sized : IsSized m
  pub starts : Each (λ _ v. v.keeping.start ≡ start) views
  pub graces : Keeps (first_of start) (cells_of m) views
  pub sums : Sums start.units (cells_of m) views
  pub lanes : Lanes m.index views
  pub rows : (s : ℕ) → RowsAt s (start_row start s) (row_at m s) views
  pub orders : Each (ViewOrder (start_order start) m.order (keeping views)) views
  pub made : Each LaneEntries views
  pub lawful : (s : ℕ) → IsRow (row_at m s)
  pub order : IsOrder m.order
