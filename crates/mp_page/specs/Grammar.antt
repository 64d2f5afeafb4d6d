-- Log page 0Ch as a relation on bytes (NVM Express Base Specification 2.0, "Asymmetric Namespace Access"): which bytes
-- are which page. Bytes 10 to 15 of the header, bytes 17 to 31 of a descriptor, and what follows the last descriptor
-- are no part of it.
use Rattle.std.specs.Prelude.{◌≡◌, ◌⊎◌, ℕ, ◌+◌, ◌*◌, ◌-◌, ◌<◌, ◌≤◌, List, [], ◌∷◌, length, drop, slice_index, Some}
use Rattle.mp_checks.specs.Checks.{first_fault}
use Rattle.mp_page.specs.declared.page.Group.{Group}
use Rattle.mp_page.specs.declared.page.Page.{Page}
use Rattle.mp_page.specs.declared.page.PageError.{PageError}
use Rattle.mp_page.specs.declared.page.PageError.TheVariants.{ShortHeader}
use Rattle.mp_page.specs.Page.{number, numbers, group_checks}

-- the descriptor at the front is this group's, whose identifier is at most max
pub record IsGroup (max : ℕ) (rest : List ℕ) (group : Group) : Type 0 where
  pub header : 32 ≤ length rest
  pub id : number 0 4 rest ≡ group.id
  pub not_zero : 0 < group.id
  pub within : group.id ≤ max
  pub changes : number 8 8 rest ≡ group.changes
  pub state : slice_index rest 16 ≡ group.state
  pub state_from : 1 ≤ group.state
  pub state_to : group.state ≤ 15
  pub count : number 4 4 rest ≡ length group.nsids
  pub list : 32 + 4 * length group.nsids ≤ length rest
  pub nsids : numbers (length group.nsids) 32 rest ≡ group.nsids

-- the bytes that a group's descriptor takes, with its list
abbrev pub group_size : Group → ℕ
group_size group = 32 + 4 * length group.nsids

-- the rest begins with these groups, one after the other; any rest does with none
abbrev pub AreGroups : ℕ → List ℕ → List Group → Type 0
AreGroups max rest [] = Unit {0}
AreGroups max rest (group ∷ groups) = IsGroup max rest group × AreGroups max (drop (group_size group) rest) groups

-- the bytes are this page, whose groups are at most max
pub record IsPage (max : ℕ) (bytes : List ℕ) (page : Page) : Type 0 where
  pub header : 16 ≤ length bytes
  pub changes : number 0 8 bytes ≡ page.changes
  pub count : number 8 2 bytes ≡ length page.groups
  pub groups : AreGroups max (drop 16 bytes) page.groups

-- a place, counted from the first of these groups, is that of a reserved byte of a descriptor
abbrev pub IsReservedIn : List Group → ℕ → Type 0
IsReservedIn [] place = ⊥
IsReservedIn (group ∷ groups) place =
    ((17 ≤ place) × (place < 32)) ⊎ ((group_size group ≤ place) × IsReservedIn groups (place - group_size group))

-- a place is that of a reserved byte of a page
abbrev pub IsReserved : Page → ℕ → Type 0
IsReserved page place = ((10 ≤ place) × (place < 16)) ⊎ ((16 ≤ place) × IsReservedIn page.groups (place - 16))

-- the bytes that these groups' descriptors take, with their lists
abbrev pub groups_size : List Group → ℕ
groups_size [] = 0
groups_size (group ∷ groups) = group_size group + groups_size groups

-- The first descriptor that is refused, and why: it stands behind groups that are as they should be and are fewer than
-- the header says, and the refusal is that of the first of its checks that fails.
pub record IsGroupRefused (max : ℕ) (bytes : List ℕ) (refusal : PageError) : Type 0 where
  pub header : 16 ≤ length bytes
  pub before : List Group
  pub are : AreGroups max (drop 16 bytes) before
  pub more : length before < number 8 2 bytes
  pub fails : first_fault (group_checks max (16 + groups_size before) (drop (16 + groups_size before) bytes))
      ≡ Some refusal

-- the bytes are no page, and why: the header is cut short, or a descriptor is refused
abbrev pub IsRefused : ℕ → List ℕ → PageError → Type 0
IsRefused max bytes refusal = ((length bytes < 16) × (refusal ≡ ShortHeader 0)) ⊎ IsGroupRefused max bytes refusal
