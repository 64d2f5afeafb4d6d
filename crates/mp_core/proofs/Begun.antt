-- What was read since a section began, over the core before it.
use Rattle.std.proofs.Common.{◌≡◌, ◌∙◌, ℕ, Some, option_map, ap, arith}
use Rattle.mp_words.specs.declared.row.Row.{Row}
use Rattle.mp_words.specs.declared.order.Order.{Order}
use Rattle.mp_core.specs.declared.view.Section.{Section}
use Rattle.mp_core.specs.declared.view.Seen.{Seen}
use Rattle.mp_core.specs.Core.{Core, stepped, looked}
use Rattle.mp_core.specs.Memory.{Memory, entered_in}
use Rattle.mp_core.specs.Views.{entered, order_read}
use Rattle.mp_core.specs.Kinds.{IsAlone, OrderTold}
use Rattle.mp_core.specs.Reads.{Later, RowRead, OrderRead}

abbrev pub entered_core : Core → Section → Core
entered_core c s = stepped (entered s) (entered_in s.note.side) c

abbrev pub ordered_core : Core → Section → Section → Order → Core
ordered_core c s t order = looked (order_read order t) (entered_core c s)

pub alone_in : (c : Core) (s t : Section) (order : Order) → IsAlone c → IsAlone (ordered_core c s t order)
alone_in c s t order al = (ap (option_map (entered_in s.note.side)) al.0, al.1)

pub told_in : (c : Core) (s t : Section) (order : Order) (m : Memory) → c.told ≡ Some m → (ordered_core c s t order).told ≡ Some (entered_in s.note.side m)
told_in c s t order m e = ap (option_map (entered_in s.note.side)) e

pub row_back : (c : Core) (s t : Section) (order : Order) (seen : Seen) (slot : ℕ) (row : Row) → RowRead (ordered_core c s t order) seen slot row → RowRead c seen slot row
row_back c s t order seen slot row r = record {
  lawful = r.lawful;
  below = r.below;
  given = r.given;
  fresh = record { from = r.fresh.from; to = r.fresh.to; last = λ al. r.fresh.last (alone_in c s t order al) };
  told = λ m e. r.told (entered_in s.note.side m) (told_in c s t order m e);
}

pub order_back : (c : Core) (s t : Section) (order : Order) (seen : Seen) → OrderTold (entered_core c s) order → Later (ordered_core c s t order) seen → OrderRead c seen order
order_back c s t order seen o l = record {
  lawful = o.lawful;
  below = o.below;
  fresh = record { from = o.fresh; to = l.order; last = λ al. o.last (alone_in c s t order al) };
  told = λ m e. o.told (entered_in s.note.side m) (told_in c s t order m e);
}

pub later_back : (c : Core) (s t : Section) (order : Order) (seen : Seen) → OrderTold (entered_core c s) order → Later (ordered_core c s t order) seen → Later c seen
later_back c s t order seen o l = record {
  order = (let f = o.fresh in let k = l.order in omega arith);
  rows = l.rows;
  order_still = λ al. l.order_still (alone_in c s t order al) ∙ o.last (alone_in c s t order al);
  rows_still = λ al. l.rows_still (alone_in c s t order al);
}
