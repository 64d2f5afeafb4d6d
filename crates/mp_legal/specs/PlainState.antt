-- The state of a run on one thread.
use Rattle.std.specs.Prelude.{ℕ, ◌==◌, nat_lt, List, [], ◌∷◌, map, sum_by, count_by, Option, Some, slice_index_or, slice_set, if◌then◌else◌}
use Rattle.mp_words.specs.declared.row.Row.{Row}
use Rattle.mp_words.specs.declared.order.Order.{Order}
use Rattle.mp_words.specs.declared.op.Op.{Op}
use Rattle.mp_words.specs.declared.op.Maker.{Maker}
use Rattle.mp_words.specs.declared.entry.RowEntry.{RowEntry}
use Rattle.mp_words.specs.declared.flight.Flight.{Flight}
use Rattle.mp_words.specs.Order.{slots_of}
use Rattle.mp_words.specs.Request.{Tried, Asked}
use Rattle.mp_words.specs.Effect.{free_row, row_after, clears_of, cleared}
use Rattle.mp_words.specs.declared.path.Path.{Path}
use Rattle.mp_legal.specs.TryRead.{TryRead}
use Rattle.mp_legal.specs.Numbers.{asked_at}

-- The rows by slot, the list, the last choices by node, the flights of each lane (the drain is lane 16) in the order
-- sent, the waiting requests, the slots under removal, the number of flips, the requests by number, and what each try
-- read, with its request's number, in the order of the tries.
pub record State : Type 0 where
  pub rows : List Row
  pub order : Order
  pub lasts : List (Option ℕ)
  pub flights : List (List Flight)
  pub waiting : List ℕ
  pub removals : List ℕ
  pub flips : ℕ
  pub requests : List Asked
  pub reads : List (ℕ × TryRead)

-- the row of a slot
abbrev pub row_at : State → ℕ → Row
row_at s slot = slice_index_or s.rows slot (free_row 0)

-- the listed slots in order, each with its row
abbrev pub paths_of : State → List Path
paths_of s = map (λ slot. record { slot = slot; row = row_at s slot }) (slots_of s.order)

-- what a try by a lane reads
abbrev pub reads_of : ℕ → State → TryRead
reads_of lane s = record { lane = lane; order = Some s.order; paths = paths_of s }

-- the number of flights on a slot
abbrev pub depth_of : State → ℕ → ℕ
depth_of s slot = sum_by (λ flights. count_by (λ flight. flight.slot == slot) flights) s.flights

-- the request of a number, or one without tries
abbrev pub request_of : State → ℕ → Asked
request_of s req = asked_at req s.requests

-- the requests by number, with one more
abbrev pub with_new : Asked → List Asked → List Asked
with_new a [] = a ∷ []
with_new a (b ∷ requests) = if nat_lt a.req b.req then a ∷ b ∷ requests else b ∷ with_new a requests

-- the requests, with these tries of one of them
abbrev pub with_tries : ℕ → List Tried → List Asked → List Asked
with_tries req tries requests = map changed requests
  where
    changed : Asked → Asked
    changed a = if a.req == req then record a { tries = tries } else a

-- a row entry that an operation makes
abbrev pub entry_of : State → ℕ → Op → Maker → RowEntry
entry_of s slot op by = record { slot = slot; row = row_after (row_at s slot) op; op = op; by = by }

-- the state after a row entry, with the last choices that it clears
abbrev pub with_entry : State → RowEntry → State
with_entry s e =
    record s { rows = slice_set s.rows e.slot e.row; lasts = cleared (clears_of e.op e.row) e.slot s.lasts }
