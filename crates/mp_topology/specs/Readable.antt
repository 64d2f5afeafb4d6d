-- Which texts are topologies, and why others are none.
use Rattle.std.specs.Prelude.{◌≡◌, ◌⊎◌, ℕ, List}
use Rattle.toml.specs.Data.{Members}
use Rattle.mp_checks.specs.Checks.{AllPass, IsFirst}
use Rattle.mp_topology.specs.Topology.{checks, topology_of, IsTable}
use Rattle.mp_topology.specs.declared.errors.TopologyError.{TopologyError}
use Rattle.mp_topology.specs.declared.errors.TopologyError.TheVariants as errors
use Rattle.mp_topology.specs.declared.topology.Topology.{Topology}

-- The bytes are the text of a table that passes each check, and this is its topology.
pub record Says (bytes : List ℕ) (topology : Topology) : Type 0 where
  pub members : Members
  pub table : IsTable bytes members
  pub pass : AllPass (checks members)
  pub is : topology ≡ topology_of members

-- The bytes are the text of a table, and this is the refusal of the first of its checks that fails.
pub record IsTableRefused (bytes : List ℕ) (refusal : TopologyError) : Type 0 where
  pub members : Members
  pub table : IsTable bytes members
  pub first : IsFirst (checks members) refusal

-- the bytes are the text of no table, or of one that is refused
abbrev pub IsRefused : List ℕ → TopologyError → Type 0
IsRefused bytes refusal =
    (((t : Members) → IsTable bytes t → ⊥) × (refusal ≡ errors.NotToml)) ⊎ IsTableRefused bytes refusal
