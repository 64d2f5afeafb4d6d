-- The parts of a run in which no row and no list changes.
use Rattle.mp_words.specs.declared.entry.KeepEntry.{KeepEntry}
use Rattle.mp_words.specs.declared.entry.KeepEntry.TheVariants as keep
use Rattle.mp_words.specs.declared.op.Maker.TheVariants as maker
use Rattle.mp_words.specs.declared.order.Order.{Order}

-- the entry of the opening's order
abbrev pub first_entry : Order → KeepEntry
first_entry order = keep.Order (record { order = order; by = maker.Start })
