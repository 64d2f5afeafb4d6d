-- The bytes that are written for a log page 0Ch (NVM Express Base Specification 2.0, "Asymmetric Namespace Access"),
-- with zeros in the reserved ones.
use Rattle.std.specs.Prelude.{ℕ, ◌<◌, ◌≤◌, ◌^◌, List, ◌∷◌, ◌++◌, length, replicate}
use Rattle.std.specs.List.{flat_map, AllByRecursion}
use Rattle.byteorder.specs.Endian.{little_bytes}
use Rattle.mp_page.specs.declared.page.Group.{Group}
use Rattle.mp_page.specs.declared.page.Page.{Page}

-- a number as n bytes
unfoldable pub word : ℕ → ℕ → List ℕ
word n x = little_bytes n x

-- so many bytes of zero
unfoldable pub zeros : ℕ → List ℕ
zeros n = replicate n 0

-- a group's descriptor with its list
abbrev pub group_bytes : Group → List ℕ
group_bytes group =
    word 4 group.id ++ (word 4 (length group.nsids) ++ (word 8 group.changes
    ++ (group.state ∷ zeros 15 ++ flat_map (word 4) group.nsids)))

-- a page: its header, then its descriptors
abbrev pub page_bytes : Page → List ℕ
page_bytes page = word 8 page.changes ++ (word 2 (length page.groups) ++ (zeros 6 ++ flat_map group_bytes page.groups))

-- a group that a page may have
pub record CanWrite (group : Group) : Type 0 where
  pub not_zero : 0 < group.id
  pub state_from : 1 ≤ group.state
  pub state_to : group.state ≤ 15

-- a page that can be written: at most 65,535 groups, and at most 65,536 bytes
pub record CanWritePage (page : Page) : Type 0 where
  pub groups : AllByRecursion CanWrite page.groups
  pub count : length page.groups < 2 ^ 16
  pub length : length (page_bytes page) ≤ 65536

-- the numbers of a group fit the fields that they are written to
pub record Fits (group : Group) : Type 0 where
  pub id : group.id < 2 ^ 32
  pub changes : group.changes < 2 ^ 64
  pub count : length group.nsids < 2 ^ 32
  pub nsids : AllByRecursion (λ n. n < 2 ^ 32) group.nsids

-- the numbers of a page fit the fields that they are written to
pub record FitsPage (page : Page) : Type 0 where
  pub changes : page.changes < 2 ^ 64
  pub groups : AllByRecursion Fits page.groups
