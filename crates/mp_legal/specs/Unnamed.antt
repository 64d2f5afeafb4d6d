-- Paths that no line of a script touches.
use Rattle.std.specs.Prelude.{ℕ, Bool, true, false, ◌==◌, ◌&&◌, not, List, slice_get, Option, Some, None}
use Rattle.std.specs.List.{list_any, flat_map}
use Rattle.mp_words.specs.declared.row.CState.{CState}
use Rattle.mp_words.specs.declared.row.CState.TheVariants.{Live}
use Rattle.mp_topology.specs.declared.topology.Controller.{Controller}
use Rattle.mp_topology.specs.declared.topology.Topology.{Topology}
use Rattle.mp_script.specs.declared.script.Line.{Line}
use Rattle.mp_script.specs.declared.script.Line.TheVariants as line
use Rattle.mp_script.specs.declared.script.Numbered1.{Numbered1}
use Rattle.mp_script.specs.declared.script.LanePlan.{LanePlan}

-- the lines of all lanes
abbrev pub lines_in : List LanePlan → List Numbered1
lines_in lanes = flat_map (λ lane. lane.lines) lanes

-- the line changes the controller's state, ends its timeout or removes its path
abbrev pub names : ℕ → Line → Bool
names ctrl (line.Ctrl c to) = c == ctrl
names ctrl (line.Anatt c) = c == ctrl
names ctrl (line.Remove c) = c == ctrl
names ctrl _ = false

-- the controller is live
abbrev pub is_live : CState → Bool
is_live Live = true
is_live _ = false

-- the controller is there, live and without ANA
abbrev pub is_plain : Option Controller → Bool
is_plain None = false
is_plain (Some c) = is_live c.state && not c.ana

-- the controller is live and without ANA, and no line names it to change its state, end its timeout or remove its path
abbrev pub stays_usable : Topology → List LanePlan → ℕ → Bool
stays_usable t lanes ctrl =
    is_plain (slice_get t.controllers ctrl) && not (list_any (λ l. names ctrl l.line) (lines_in lanes))
