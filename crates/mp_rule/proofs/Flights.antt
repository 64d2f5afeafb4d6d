-- The flights of a slot's present path.
use Rattle.std.proofs.Common.{◌≡◌, ℕ, zero, suc, List, [], ◌∷◌, arith}
use Rattle.std.specs.List.{All}
use Rattle.mp_words.specs.declared.flight.Flight.{Flight}
use Rattle.mp_core.specs.Views.{on_slot}
use Rattle.mp_core.proofs.Flights.{on_here}
use Rattle.mp_rule.specs.Rule.{FlightLife}

-- no flight is on the slot
pub none_on : (s g : ℕ) (fs : List Flight) → on_slot s fs ≡ 0 → All (FlightLife s g) fs
none_on s g [] e i d l h = absurd (omega arith)
none_on s g (f ∷ fs) e zero d l h = let one = on_here s f h in absurd (omega arith)
none_on s g (f ∷ fs) e (suc i) d l h = none_on s g fs (omega arith) i d (omega arith) h
