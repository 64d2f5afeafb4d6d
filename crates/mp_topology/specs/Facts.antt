-- What holds of each topology that is read.
use Rattle.std.specs.Prelude.{◌≡◌, ◌≢◌, ◌<◌, ◌≤◌, true, length, IfSome, IsSome, All, HoldsAt}
use Rattle.std.specs.List.{AllPairs}
use Rattle.mp_topology.specs.Controllers.{is_name}
use Rattle.mp_topology.specs.declared.topology.Controller.{Controller}
use Rattle.mp_topology.specs.declared.topology.Topology.{Topology}

-- a controller that reports ANA has a page
abbrev pub IsPaged : Controller → Type 0
IsPaged c = c.ana ≡ true → IsSome c.page

-- What holds of each topology that is read: the ranges of its numbers, names that are names and differ, homes that
-- are nodes, an opening of controllers that differ, and pages below 1024.
pub record IsTopology (t : Topology) : Type 0 where
  pub nsid : 1 ≤ t.nsid
  pub group_least : 1 ≤ t.group
  pub group_most : t.group ≤ t.anagrpmax
  pub nodes_least : 1 ≤ t.near.nodes
  pub nodes_most : t.near.nodes ≤ 8
  pub controllers_least : 1 ≤ length t.controllers
  pub controllers_most : length t.controllers ≤ 64
  pub names : All (λ c. is_name c.name ≡ true) t.controllers
  pub names_once : AllPairs (λ c d. c.name ≢ d.name) t.controllers
  pub homes : All (λ c. IfSome c.node (λ n. n < t.near.nodes)) t.controllers
  pub opening_most : length t.opening ≤ 8
  pub opening_there : All (λ p. p < length t.controllers) t.opening
  pub opening_once : AllPairs (λ p q. p ≢ q) t.opening
  pub opening_paged : All (λ p. HoldsAt IsPaged t.controllers p) t.opening
  pub pages : All (λ c. IfSome c.page (λ p. p < 1024)) t.controllers
