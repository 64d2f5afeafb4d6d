-- The passes that go to threads in a trial.
use Rattle.std.specs.Prelude.{◌≡◌, ℕ, ◌<◌, List, [], Option, Some, length, slice_index_or}
use Rattle.atomic_table.specs.Seated.{TableId}
use Rattle.mp_core.specs.declared.view.Role.TheVariants as role
use Rattle.mp_table.specs.declared.pass.Pass.{Pass}
use Rattle.mp_table.specs.Passes.{home_of, view_of}
use Rattle.mp_table.specs.Trials.{Idle}

-- There is a pass of this table and lane, with so many units.
pub record IsReady (z : TableId) (lane n : ℕ) (j : Option Pass) : Type 0 where
  pub pass : Pass
  pub has : j ≡ Some pass
  pub own : home_of pass ≡ z
  pub idle : Idle (role.Lane lane) n [] (view_of pass)

-- There are so many passes of this table, each of the lane of its place.
pub record AllReady (z : TableId) (count n : ℕ) (js : List (Option Pass)) : Type 0 where
  pub length_is : length js ≡ count
  pub each : (i : ℕ) (d : Option Pass) → i < count → IsReady z i n (slice_index_or js i d)
