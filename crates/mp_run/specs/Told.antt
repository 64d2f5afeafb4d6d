-- What holds of the requests that a run tells.
use Rattle.std.specs.Prelude.{◌≢◌, None}
use Rattle.std.specs.List.{last_or}
use Rattle.mp_words.specs.declared.trying.Outcome.TheVariants.{Sent}
use Rattle.mp_words.specs.Request.{Asked, outcome_of}
pub use Rattle.mp_legal.specs.Gathering.{AreNumbered}

-- the request is done, failed or listed, and not on its way
abbrev pub IsOver : Asked → Type 0
IsOver a = outcome_of (last_or None a.tries) ≢ Sent
