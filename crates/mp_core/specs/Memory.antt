-- The words of the table, unpacked, and what each kind of step makes of them.
use Rattle.std.specs.Prelude.{ℕ, ◌+◌, ◌-◌, List, Option, None, slice_index, slice_index_or, slice_set}
use Rattle.mp_words.specs.declared.row.Row.{Row}
use Rattle.mp_words.specs.declared.order.Order.{Order}
use Rattle.mp_words.specs.declared.words.Side.{Side}
use Rattle.mp_words.specs.Effect.{free_row, unless_slot}

-- The words of the table, unpacked: the side index, the two sides, the list of paths, the rows and depths by slot,
-- and the current paths by node.
pub record Memory : Type 0 where
  pub index : ℕ
  pub sides : List Side
  pub order : Order
  pub rows : List Row
  pub depths : List ℕ
  pub currents : List (Option ℕ)

-- a side that nobody has entered
abbrev pub no_side : Side
no_side = record { entries = 0; inside = 0 }

-- a side of the table
abbrev pub side_at : Memory → ℕ → Side
side_at m side = slice_index_or m.sides side no_side

-- the row of a slot
abbrev pub row_at : Memory → ℕ → Row
row_at m slot = slice_index_or m.rows slot (free_row 0)

-- how many flights the table counts on a slot
abbrev pub depth_at : Memory → ℕ → ℕ
depth_at m slot = slice_index m.depths slot

-- the slot that a node's current word names, if it names one
abbrev pub current_at : Memory → ℕ → Option ℕ
current_at m node = slice_index_or m.currents node None

-- a side with one entry and one inside more
abbrev pub one_in : Side → Side
one_in s = record { entries = s.entries + 1; inside = s.inside + 1 }

-- a side with one inside less
abbrev pub one_out : Side → Side
one_out s = record { entries = s.entries; inside = s.inside - 1 }

-- the words after a section has entered a side
abbrev pub entered_in : ℕ → Memory → Memory
entered_in side m = record m { sides = slice_set m.sides side (one_in (side_at m side)) }

-- the words after a section has left its side
abbrev pub left_in : ℕ → Memory → Memory
left_in side m = record m { sides = slice_set m.sides side (one_out (side_at m side)) }

-- the words after the side index became the other side
abbrev pub flipped_in : Memory → Memory
flipped_in m = record m { index = 1 - m.index }

-- the words with this row at a slot
abbrev pub row_in : ℕ → Row → Memory → Memory
row_in slot row m = record m { rows = slice_set m.rows slot row }

-- the words with this list of paths
abbrev pub order_in : Order → Memory → Memory
order_in order m = record m { order = order }

-- the words with one flight more on a slot
abbrev pub sent_in : ℕ → Memory → Memory
sent_in slot m = record m { depths = slice_set m.depths slot (depth_at m slot + 1) }

-- the words with one flight less on a slot
abbrev pub landed_in : ℕ → Memory → Memory
landed_in slot m = record m { depths = slice_set m.depths slot (depth_at m slot - 1) }

-- the words with this current path at a node
abbrev pub current_in : ℕ → Option ℕ → Memory → Memory
current_in node current m = record m { currents = slice_set m.currents node current }

-- the words after a node's current word became none where it named the slot
abbrev pub cleared_in : ℕ → ℕ → Memory → Memory
cleared_in node slot m = current_in node (unless_slot slot (current_at m node)) m

-- the words as they were
abbrev pub same_in : Memory → Memory
same_in m = m
