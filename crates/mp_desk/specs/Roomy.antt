-- A list with room, as clauses see it.
use Rattle.std.specs.Prelude.{ℕ, List}

-- the items in order, and for how many more there is room
pub record RoomyView (T : Type 0) : Type 0 where
  pub items : List T
  pub spare : ℕ
