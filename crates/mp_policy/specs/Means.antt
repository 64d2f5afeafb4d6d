-- What the choice of each policy means, in the subject's own words.
use Rattle.std.specs.Prelude.{◌≡◌, ℕ, Bool, true, false, nat_le, nat_lt, List, ◌∷◌, ◌++◌, ◌⊎◌, Option, None, Some, [], filter}
use Rattle.std.specs.List.{list_all, list_any, Contains}
use Rattle.mp_words.specs.declared.near.Near.{Near}
use Rattle.mp_words.specs.declared.path.Path.{Path}
use Rattle.mp_words.specs.Row.{is_usable}
use Rattle.mp_words.specs.States.{optimized, non_optimized}
use Rattle.mp_words.specs.PathTable.{has_slot, is_in}
use Rattle.mp_policy.specs.Choices.{distance_to}

-- The path is one of these, and usable.
abbrev pub IsUsableOf : List Path → Path → Type 0
IsUsableOf paths path = Contains paths path × (is_usable path.row ≡ true)

-- The path is the first of the nearest: no path has a lesser distance, and none before it an equal one.
pub record IsFirstNearest (distance : Path → ℕ) (paths : List Path) (path : Path) : Type 0 where
  pub before : List Path
  pub after : List Path
  pub parts : paths ≡ before ++ path ∷ after
  pub farther : list_all (λ other. nat_lt (distance path) (distance other)) before ≡ true
  pub nearest : list_all (λ other. nat_le (distance path) (distance other)) after ≡ true

-- The path is the first of the nearest enabled optimized paths or, where there is none, of the nearest enabled
-- non-optimized ones.
abbrev pub IsNearestChoice : (Path → ℕ) → List Path → Path → Type 0
IsNearestChoice distance paths path =
    IsFirstNearest distance (filter (is_in optimized) paths) path
    ⊎ ((filter (is_in optimized) paths ≡ []) × IsFirstNearest distance (filter (is_in non_optimized) paths) path)

-- The path is the choice of NUMA: the first of the nearest, by the distance from the node to its controller.
abbrev pub IsNumaChoice : Near → ℕ → List Path → Path → Type 0
IsNumaChoice near node paths path = IsNearestChoice (distance_to near node) paths path

-- The path is the choice of queue depth: the first of those with the fewest active commands.
abbrev pub IsQueueDepthChoice : (ℕ → ℕ) → List Path → Path → Type 0
IsQueueDepthChoice depth paths path = IsNearestChoice (λ other. depth other.slot) paths path

-- A last choice is listed.
abbrev pub is_listed : Option ℕ → List Path → Bool
is_listed None paths = false
is_listed (Some slot) paths = list_any (has_slot slot) paths

-- The walk of round robin from the slot of the last choice: what stands after its path, and then, round the end, what
-- stands before it.
pub record IsWalk (slot : ℕ) (paths walk : List Path) (last : Path) : Type 0 where
  pub before : List Path
  pub after : List Path
  pub parts : paths ≡ before ++ last ∷ after
  pub others : list_any (has_slot slot) before ≡ false
  pub own : last.slot ≡ slot
  pub goes : walk ≡ after ++ before

-- The path is the first of these that is enabled and in this ANA state.
pub record IsFirstIn (state : ℕ) (paths : List Path) (path : Path) : Type 0 where
  pub before : List Path
  pub after : List Path
  pub parts : paths ≡ before ++ path ∷ after
  pub others : list_any (is_in state) before ≡ false
  pub own : is_in state path ≡ true

-- The path is the last of these that is enabled and in this ANA state.
pub record IsLastIn (state : ℕ) (paths : List Path) (path : Path) : Type 0 where
  pub before : List Path
  pub after : List Path
  pub parts : paths ≡ before ++ path ∷ after
  pub others : list_any (is_in state) after ≡ false
  pub own : is_in state path ≡ true

-- The last choice is chosen again: it is enabled and in this ANA state.
abbrev pub IsAgain : ℕ → Path → Path → Type 0
IsAgain state last path = (path ≡ last) × (is_in state last ≡ true)

-- The path is one that round robin takes where neither the walk nor the last choice is enabled and optimized: the last
-- enabled non-optimized path of the walk or, where there is none, the last choice, if it is enabled and non-optimized.
pub record IsLesserNext (last : Path) (walk : List Path) (path : Path) : Type 0 where
  pub none : list_any (is_in optimized) walk ≡ false
  pub not_last : is_in optimized last ≡ false
  pub takes : IsLastIn non_optimized walk path ⊎ ((list_any (is_in non_optimized) walk ≡ false) × IsAgain non_optimized last path)

-- The path is the choice of round robin behind the last choice: the first enabled optimized path of the walk; where
-- there is none the last choice, if it is enabled and optimized; else the lesser ones.
abbrev pub IsNextChoice : Path → List Path → Path → Type 0
IsNextChoice last walk path =
    IsFirstIn optimized walk path
    ⊎ (((list_any (is_in optimized) walk ≡ false) × IsAgain optimized last path)
    ⊎ IsLesserNext last walk path)
