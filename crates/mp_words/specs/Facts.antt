-- What holds of each row and each order that is stored.
use Rattle.std.specs.Prelude.{◌≡◌, ℕ, ◌<◌, ◌≤◌, length, slice_index}
use Rattle.mp_words.specs.declared.row.Row.{Row}
use Rattle.mp_words.specs.declared.order.Order.{Order}
use Rattle.mp_words.specs.Effect.{free_row}

-- The row may be stored: its ANA state is at most 15, and where that is 0 the row has nothing but its version.
pub record IsRow (row : Row) : Type 0 where
  pub state : row.state ≤ 15
  pub free : row.state ≡ 0 → row ≡ free_row row.version

-- The order may be stored: it lists at most eight slots, each once, and has slot 0 in the places past them.
pub record IsOrder (order : Order) : Type 0 where
  pub within : order.len ≤ 8
  pub places : length order.slots ≡ 8
  pub distinct : (i j : ℕ) → i < order.len → j < order.len → slice_index order.slots i ≡ slice_index order.slots j → i ≡ j
  pub past : (i : ℕ) → order.len ≤ i → slice_index order.slots i ≡ 0
