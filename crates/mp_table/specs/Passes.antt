-- Which table a pass is of, and what it knows.
use Rattle.std.specs.Prelude.{ℕ}
use Rattle.atomic_table.specs.Seated.{TableId}
use Rattle.mp_core.specs.declared.view.View.{View}
use Rattle.mp_table.specs.declared.pass.Pass.{Pass}
use Rattle.mp_table.specs.declared.keeper_pass.KeeperPass.{KeeperPass}
use Rattle.mp_table.specs.declared.shared.Shared.{Shared}
use Rattle.mp_table.specs.declared.token.Token.{Token}
use Rattle.mp_core.specs.Core.{Core}
use Rattle.mp_table.specs.Known.{core_on}

-- the table
abbrev pub table_of : Shared → TableId
table_of s = s.table.shared.table_id

-- the table that a lane's pass is of
abbrev pub home_of : Pass → TableId
home_of p = p.token.seat.table_id

-- what a lane's pass knows
abbrev pub view_of : Pass → View
view_of p = p.token.seat.me.0

-- the table that the keeper's pass is of
abbrev pub keeper_home : KeeperPass → TableId
keeper_home p = p.token.seat.table_id

-- what the keeper's pass knows
abbrev pub keeper_view : KeeperPass → View
keeper_view p = p.token.seat.me.0

-- what is known by the seat of a token
abbrev pub known_by : Token → View
known_by t = t.seat.me.0

-- what a pass with this lane and token knows, as the traits' contracts have it
abbrev pub core_by : Shared → ℕ → Token → Core
core_by s lane t = core_on (table_of s) lane (known_by t)
