-- What each of the keeper's calls leaves for the next one, and what a submit and a finish leave for the keeper.
use Rattle.std.specs.Prelude.{◌≡◌, ℕ, ◌+◌, ◌≤◌, true, None}
use Rattle.std.specs.List.{last_or}
use Rattle.mp_words.specs.declared.flight.Flight.{Flight}
use Rattle.mp_words.specs.declared.trying.Outcome.TheVariants as outcome
use Rattle.mp_words.specs.Request.{outcome_of, asked_of}
use Rattle.mp_words.specs.RequestView.{RequestView}
use Rattle.mp_core.specs.Views.{has_flight}
use Rattle.mp_submit.specs.declared.submit.Submitted.{Submitted}
use Rattle.mp_submit.specs.declared.submit.Submitted.TheVariants as submitted
use Rattle.mp_core.specs.Core.{Core}
use Rattle.mp_keep.specs.Keeper.{KeeperView, StandsTo}

-- The keeper still stands to the steps, no section is open, the flights are as before, and at most so many units were
-- used.
pub record Leaves (units : ℕ) (k : KeeperView) (a b : Core) : Type 0 where
  pub stands : StandsTo k b.view
  pub closed : b.view.inside ≡ None
  pub flights : b.view.flights ≡ a.view.flights
  pub left : a.view.left ≤ b.view.left + units

-- The keeper still stands to the steps, no section is open, and at most one unit was used; where the request was sent,
-- its flight is on its way, and its last try says so.
pub record Sends (k : KeeperView) (a b : Core) (after : RequestView) (answer : Submitted) : Type 0 where
  pub stands : StandsTo k b.view
  pub closed : b.view.inside ≡ None
  pub left : a.view.left ≤ b.view.left + 1
  pub flies : (f : Flight) → answer ≡ submitted.Sent f → has_flight f b.view ≡ true
  pub sent : (f : Flight) → answer ≡ submitted.Sent f → outcome_of (last_or None (asked_of after).tries) ≡ outcome.Sent

-- The keeper still stands to the steps, no section is open, and no unit was used.
pub record StillStands (k : KeeperView) (a b : Core) : Type 0 where
  pub stands : StandsTo k b.view
  pub closed : b.view.inside ≡ None
  pub left : b.view.left ≡ a.view.left
