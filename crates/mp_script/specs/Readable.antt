-- Which texts are scripts.
use Rattle.std.specs.Prelude.{◌≡◌, ℕ, List}
use Rattle.mp_checks.specs.Checks.{AllPass}
use Rattle.mp_topology.specs.declared.topology.Topology.{Topology}
use Rattle.mp_script.specs.Script.{checks, script_of}
use Rattle.mp_script.specs.Splitting.{lines_of}
use Rattle.mp_script.specs.declared.script.Script.{Script}

-- The text passes each check, and this is its script.
pub record Says (t : Topology) (pages : ℕ) (bytes : List ℕ) (script : Script) : Type 0 where
  pub pass : AllPass (checks t pages bytes)
  pub is : script ≡ script_of t.controllers (lines_of bytes)
