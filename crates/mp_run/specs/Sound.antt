-- What holds of the state of a run between calls.
use Rattle.std.specs.Prelude.{[], ◌≡◌, ℕ, true, List, ◌∷◌}
use Rattle.mp_words.specs.declared.flight.Flight.{Flight}
use Rattle.mp_words.specs.declared.trying.Outcome.TheVariants.{Sent}
use Rattle.mp_legal.specs.PlainState.{State}
use Rattle.mp_legal.specs.PlainLine.{flights_of}
use Rattle.mp_legal.specs.Numbers.{has_flight, standing}

-- each flight is of this lane
abbrev pub AreOf : ℕ → List Flight → Type 0
AreOf lane [] = Unit {0}
AreOf lane (f ∷ flights) = (f.lane ≡ lane) × AreOf lane flights

-- Each request that was sent flies.
abbrev pub AreAloft : State → Type 0
AreAloft s = (req : ℕ) → standing req s.requests ≡ Sent → (lane : ℕ) × (has_flight req (flights_of lane s) ≡ true)
