-- What the words of the table say: rows, the list of paths and sides by their packings.
use Rattle.std.specs.Prelude.{ℕ, ◌-◌, ◌==◌, map, Option, None, Some, if◌then◌else◌}
use Rattle.mp_words.specs.declared.order.Order.{Order}
use Rattle.mp_words.specs.declared.words.Words.{Words}
use Rattle.mp_words.specs.RowWord.{row_in}
use Rattle.mp_words.specs.SideWord.{side_of_word}
use Rattle.mp_words.specs.OrderWord.{order_in}
use Rattle.mp_core.specs.declared.view.Start.{Start}
use Rattle.mp_core.specs.Memory.{Memory, row_at}
use Rattle.mp_core.specs.Status.{Status, first_of_row, lists}

-- the slot that a current word names, if it names one
abbrev pub current_in_word : ℕ → Option ℕ
current_in_word w = if w == 0 then None else Some (w - 1)

-- what the words of the table say
abbrev pub unpacked : Words → Memory
unpacked w = record {
  index = w.index;
  sides = map side_of_word w.sides;
  order = order_in w.order;
  rows = map row_in w.rows;
  depths = w.depths;
  currents = map current_in_word w.currents;
}

-- the list of paths at the start
abbrev pub start_order : Start → Order
start_order s = order_in s.words.order

-- where a slot is at the start
abbrev pub first_status : Start → ℕ → Status
first_status s slot = first_of_row (row_at (unpacked s.words) slot) (lists slot (start_order s))
