-- The ANA states, as a log page has them: NVM Express Base Specification 2.0, "Asymmetric Namespace Access".
use Rattle.std.specs.Prelude.{ℕ}

-- The ANA state of a path that takes requests at full speed.
abbrev pub optimized : ℕ
optimized = 1

-- The ANA state of a path that takes requests more slowly.
abbrev pub non_optimized : ℕ
non_optimized = 2

-- The ANA state of a path that takes no requests for now.
abbrev pub inaccessible : ℕ
inaccessible = 3

-- The ANA state of a path that will take no requests again.
abbrev pub persistent_loss : ℕ
persistent_loss = 4

-- The ANA state of a path that is going from one state to another.
abbrev pub change : ℕ
change = 15
