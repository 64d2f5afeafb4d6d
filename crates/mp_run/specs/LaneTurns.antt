-- The turns as the code has them.
use Rattle.std.specs.Prelude.{[], ℕ, List, Option, Some, None}
use Rattle.std.specs.List.{flat_map}
use Rattle.mp_script.specs.declared.script.Numbered1.{Numbered1}
use Rattle.mp_run.specs.declared.turns.LaneTurn.{LaneTurn}
use Rattle.mp_legal.specs.Turns.{Turn}
use Rattle.mp_script.specs.Facts.{submit_of}

-- the turn
abbrev pub turn_of : LaneTurn → Turn
turn_of t = record { lane = t.lane; line = t.line }

-- the request that a turn submits, if it submits one
abbrev pub submit_in : Option Numbered1 → List ℕ
submit_in None = []
submit_in (Some l) = submit_of l.line

-- the requests that turns submit, in order
abbrev pub turns_submits : List Turn → List ℕ
turns_submits turns = flat_map (λ t. submit_in t.line) turns
