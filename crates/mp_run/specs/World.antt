-- The worlds that the program can run.
use Rattle.std.specs.Prelude.{◌≤◌, length, All}
use Rattle.mp_topology.specs.Facts.{IsTopology}
use Rattle.mp_script.specs.declared.script.World.{World}

-- A topology that was read, and pages of at most 65,536 bytes.
pub record IsWorld (world : World) : Type 0 where
  pub topology : IsTopology world.topology
  pub pages : All (λ page. length page ≤ 65536) world.pages
