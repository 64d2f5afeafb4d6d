-- Words each of which is the packing of what it says, and what they say.
use Rattle.std.specs.Prelude.{◌≡◌, ℕ, ◌<◌, false, slice_index}
use Rattle.mp_words.specs.declared.words.Words.{Words}
use Rattle.mp_words.specs.RowWord.{is_no_row}
use Rattle.mp_words.specs.OrderWord.{is_no_order}
use Rattle.mp_core.specs.Unpacked.{unpacked}
use Rattle.mp_plain.specs.declared.unpacked.Unpacked.{Unpacked}

-- The word of each slot is a row's, and that of the list of paths is an order's.
pub record IsPacked (w : Words) : Type 0 where
  pub rows : (s : ℕ) → s < 15 → is_no_row (slice_index w.rows s) ≡ false
  pub order : is_no_order w.order ≡ false

-- The rows and the list of paths are those that the words unpack to.
pub record IsUnpacked (w : Words) (u : Unpacked) : Type 0 where
  pub same_rows : u.rows ≡ (unpacked w).rows
  pub same_order : u.order ≡ (unpacked w).order
