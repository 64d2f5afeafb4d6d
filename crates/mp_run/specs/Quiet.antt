-- Lanes in which nothing flies.
use Rattle.std.specs.Prelude.{[], ◌≡◌, ℕ, Bool, ◌==◌, not, is_some, List, ◌∷◌, if◌then◌else◌}
use Rattle.mp_legal.specs.PlainState.{State}
use Rattle.mp_legal.specs.PlainLine.{flights_of}
use Rattle.mp_legal.specs.Turns.{Turn}

-- nothing flies
abbrev pub IsQuiet : State → Type 0
IsQuiet s = (lane : ℕ) → flights_of lane s ≡ []

-- Whether nothing flies in a lane after these turns, where it is known whether nothing does before: nothing does after
-- the lane's end, and something may after a line.
abbrev pub closes : ℕ → Bool → List Turn → Bool
closes lane quiet [] = quiet
closes lane quiet (t ∷ turns) = closes lane (if t.lane == lane then not (is_some t.line) else quiet) turns
