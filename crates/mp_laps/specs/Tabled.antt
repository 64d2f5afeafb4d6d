-- What each call over the table leaves for the next one.
use Rattle.std.specs.Prelude.{◌≡◌, ℕ, ◌+◌, ◌-◌, ◌≤◌, [], ◌∷◌, ◌++◌, None}
use Rattle.std.specs.List.{last_or}
use Rattle.mp_words.specs.declared.flight.Flight.{Flight}
use Rattle.mp_words.specs.declared.trying.Outcome.TheVariants as outcome
use Rattle.mp_words.specs.Request.{outcome_of, asked_of}
use Rattle.mp_words.specs.RequestView.{RequestView}
use Rattle.mp_core.specs.Core.{Core}
use Rattle.mp_core.specs.Views.{flights_without}
use Rattle.mp_submit.specs.declared.submit.Submitted.{Submitted}
use Rattle.mp_submit.specs.declared.submit.Submitted.TheVariants as submitted
use Rattle.mp_keep.specs.Keeper.{KeeperView, StandsTo}

-- The keeper still stands to its steps, no section is open, the flights are as before, at most so many units were used,
-- and the same lanes are out.
pub record Steady (units : ℕ) (k : KeeperView) (a b : Core) : Type 0 where
  pub stands : StandsTo k b.view
  pub closed : b.view.inside ≡ None
  pub flights : b.view.flights ≡ a.view.flights
  pub left : a.view.left ≤ b.view.left + units
  pub home : b.home ≡ a.home
  pub role : b.view.role ≡ a.view.role
  pub out : b.view.keeping.out ≡ a.view.keeping.out

-- A unit was used, no section is open, and where the request was sent its flight is on its way.
pub record Goes (a b : Core) (after : RequestView) (answer : Submitted) : Type 0 where
  pub home : b.home ≡ a.home
  pub role : b.view.role ≡ a.view.role
  pub closed : b.view.inside ≡ None
  pub left : b.view.left ≡ a.view.left - 1
  pub flew : (f : Flight) → answer ≡ submitted.Sent f → b.view.flights ≡ a.view.flights ++ f ∷ []
  pub sent : (f : Flight) → answer ≡ submitted.Sent f → outcome_of (last_or None (asked_of after).tries) ≡ outcome.Sent

-- The flight has ended, and no section is open.
pub record Comes (f : Flight) (a b : Core) : Type 0 where
  pub home : b.home ≡ a.home
  pub role : b.view.role ≡ a.view.role
  pub closed : b.view.inside ≡ None
  pub left : b.view.left ≡ a.view.left
  pub flights : b.view.flights ≡ flights_without f a.view.flights
