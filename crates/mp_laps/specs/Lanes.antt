-- Between which steps a lane and the words are ready for the next one.
use Rattle.std.specs.Prelude.{◌≡◌, ℕ, false, List}
use Rattle.mp_core.specs.Core.{Core}
use Rattle.mp_keep.specs.Keeper.{KeeperView, StandsTo}
use Rattle.mp_desk.specs.Calls.{Sits}
use Rattle.mp_desk.specs.DeskView.{DeskView}
use Rattle.mp_lane.specs.LaneView.{LaneView}
use Rattle.mp_lane.specs.Steps.{FitsPage, HasNoKeeperLine}

-- each page has at most 65,536 bytes
abbrev pub AreFit : List (List ℕ) → Type 0
AreFit pages = (box : ℕ) → FitsPage pages box

-- The pass has the lane's number and its flights, and unless the lane is over, the lines that it hasn't run are none of
-- the keeper's.
pub record IsReady (v : LaneView) (c : Core) : Type 0 where
  pub lane : c.lane ≡ v.id
  pub sits : Sits c v.desk
  pub plan : v.over ≡ false → HasNoKeeperLine v.rest

-- A pass sits at the desk, and the keeper stands to its steps.
pub record IsKept (d : DeskView) (k : KeeperView) (c : Core) : Type 0 where
  pub sits : Sits c d
  pub stands : StandsTo k c.view
