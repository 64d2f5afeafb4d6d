-- A walk over the paths from one of them, a path at a time.
use Rattle.std.specs.Prelude.{ℕ, ◌+◌, List, ◌++◌, take, drop, Option}
use Rattle.std.specs.Option.{option_or}
use Rattle.mp_words.specs.declared.path.Path.{Path}
use Rattle.mp_words.specs.States.{optimized, non_optimized}
use Rattle.mp_policy.specs.declared.walk.Walked.{Walked}
use Rattle.mp_policy.specs.Choices.{if_in}

-- The paths after this place, and then those before it.
abbrev pub walk_after : ℕ → List Path → List Path
walk_after place paths = drop (place + 1) paths ++ take place paths

-- What a walk has met once it meets one path more: the first enabled optimized path and the last enabled non-optimized
-- one.
abbrev pub walk_step : Walked → Path → Walked
walk_step w path = record { first = option_or w.first (if_in optimized path); last = option_or (if_in non_optimized path) w.last }

-- The choice of round robin from the path of the last choice, by what the walk from it has met.
abbrev pub after_walk : Path → Walked → Option Path
after_walk last w = option_or w.first (option_or (if_in optimized last) (option_or w.last (if_in non_optimized last)))
