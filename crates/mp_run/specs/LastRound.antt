-- The last round of the drain, and the states that are drained.
use Rattle.std.specs.Prelude.{[], ◌≡◌, ℕ, zero, suc, ◌<◌, true, length, if◌then◌else◌}
use Rattle.std.specs.List.{list_any}
use Rattle.mp_checks.specs.Marks.{has}
use Rattle.mp_legal.specs.PlainState.{State}
use Rattle.mp_legal.specs.PlainCall.{Inputs}
use Rattle.mp_legal.specs.PlainLine.{flights_of}
use Rattle.mp_legal.specs.Numbers.{has_req}
use Rattle.mp_legal.specs.Stepped.{Stepped}
use Rattle.mp_legal.specs.Drain.{round, is_sent}

-- the last of this round and those after it, at most so many
abbrev pub last_round : Inputs → ℕ → Stepped → Stepped
last_round i zero first = first
last_round i (suc n) first =
    let more = last_round i n (round i first.state) in
    if list_any is_sent first.events then more else first

-- Nothing flies in the lane of the drain, and each request that waits was submitted.
pub record CanDrain (s : State) : Type 0 where
  pub lanes : 16 < length s.flights
  pub idle : flights_of 16 s ≡ []
  pub there : (req : ℕ) → has s.waiting req ≡ true → has_req req s.requests ≡ true
