-- What holds of each script that is read.
use Rattle.std.specs.Prelude.{◌≡◌, ℕ, ◌≤◌, ◌<◌, Bool, true, false, List, [], ◌∷◌, length, filter, Option, Some, None, HoldsAt}
use Rattle.std.specs.List.{flat_map, AllByRecursion}
use Rattle.mp_checks.specs.Marks.{has}
use Rattle.mp_topology.specs.declared.topology.Controller.{Controller}
use Rattle.mp_topology.specs.declared.topology.Topology.{Topology}
use Rattle.mp_script.specs.Distinct.{IsDistinct}
use Rattle.mp_script.specs.declared.script.Line.{Line}
use Rattle.mp_script.specs.declared.script.Line.TheVariants as line
use Rattle.mp_script.specs.declared.script.Numbered1.{Numbered1}
use Rattle.mp_script.specs.declared.script.LanePlan.{LanePlan}
use Rattle.mp_script.specs.declared.script.Script.{Script}

-- the request that a line submits, if it submits one
abbrev pub submit_of : Line → List ℕ
submit_of (line.Submit req node) = req ∷ []
submit_of _ = []

-- the requests that lines submit
abbrev pub submits_of : List Numbered1 → List ℕ
submits_of lines = flat_map (λ l. submit_of l.line) lines

-- the requests that lanes submit
abbrev pub submits_in : List LanePlan → List ℕ
submits_in plans = flat_map (λ plan. submits_of plan.lines) plans

-- at most sixteen lanes and 65,536 lines, and no request is submitted twice
pub record IsScript (script : Script) : Type 0 where
  pub few_lanes : length script.lanes ≤ 16
  pub few_lines : length (flat_map (λ plan. plan.lines) script.lanes) ≤ 65536
  pub distinct : IsDistinct (submits_in script.lanes)

-- ---- what lines name

-- there is a controller of this number, and it has ANA or not
abbrev pub HasAna : Bool → List Controller → ℕ → Type 0
HasAna ana controllers c = (c < length controllers) × HoldsAt (λ controller. controller.ana ≡ ana) controllers c

-- a line that adds names a box exactly where its controller has ANA
abbrev pub Adds : List Controller → ℕ → ℕ → Option ℕ → Type 0
Adds controllers pages c None = HasAna false controllers c
Adds controllers pages c (Some page) = HasAna true controllers c × (page < pages)

-- What a line of a lane names is there, where the script submits these, and a line of the keeper's is in the keeper's
-- lane.
abbrev pub IsLine : Topology → ℕ → List ℕ → Bool → Line → Type 0
IsLine t pages submits keeper (line.Submit req node) = node < t.near.nodes
IsLine t pages submits keeper (line.Finish req) = has submits req ≡ true
IsLine t pages submits keeper line.FinishAll = Unit {0}
IsLine t pages submits keeper line.Requeue = Unit {0}
IsLine t pages submits keeper (line.Log c page) = HasAna true t.controllers c × (page < pages)
IsLine t pages submits keeper (line.Ctrl c state) = c < length t.controllers
IsLine t pages submits keeper (line.Anatt c) = c < length t.controllers
IsLine t pages submits keeper (line.Add c page) = (keeper ≡ true) × Adds t.controllers pages c page
IsLine t pages submits keeper (line.Remove c) = (keeper ≡ true) × (c < length t.controllers)
IsLine t pages submits keeper line.Reap = keeper ≡ true
IsLine t pages submits keeper (line.Policy policy) = keeper ≡ true

-- What holds of each of these lines.
abbrev pub AreLines : Topology → ℕ → List ℕ → Bool → List Numbered1 → Type 0
AreLines t pages submits keeper lines = AllByRecursion (λ l. IsLine t pages submits keeper l.line) lines

-- what holds of each script over a topology and so many boxes: its lines name what is there, and at most one lane is
-- the keeper's
pub record IsOver (t : Topology) (pages : ℕ) (script : Script) : Type 0 where
  pub lines : AllByRecursion (λ plan. AreLines t pages (submits_in script.lanes) plan.keeper plan.lines) script.lanes
  pub keepers : length (filter (λ plan. plan.keeper) script.lanes) ≤ 1
