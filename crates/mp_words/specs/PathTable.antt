-- The path table: the listed slots in order, each with its row.
use Rattle.std.specs.Prelude.{◌≡◌, ℕ, Bool, true, false, ◌&&◌, ◌==◌, List, ◌∷◌, ◌++◌, map, take, zip, find, Option}
use Rattle.std.specs.List.{list_any}
use Rattle.mp_words.specs.declared.row.Row.{Row}
use Rattle.mp_words.specs.declared.order.Order.{Order}
use Rattle.mp_words.specs.declared.path.Path.{Path}
use Rattle.mp_words.specs.declared.reading.Reading.{Reading}
use Rattle.mp_words.specs.Order.{slots_of}
use Rattle.mp_words.specs.Row.{is_enabled}

-- The path of a slot with its row.
abbrev pub path_of : ℕ × Row → Path
path_of p = record { slot = p.0; row = p.1 }

-- The path table of a reading: the listed slots in order, each with the row that was read.
abbrev pub paths_of : Reading → List Path
paths_of r = map path_of (take r.len (zip r.slots r.rows))

-- The path table of an order: the listed slots in order, each with the row that this function gives it.
abbrev pub path_table : Order → (ℕ → Row) → List Path
path_table order row_of = map (λ slot. record { slot = slot; row = row_of slot }) (slots_of order)

-- The path has this slot.
abbrev pub has_slot : ℕ → Path → Bool
has_slot slot path = path.slot == slot

-- The path is this controller's.
abbrev pub has_ctrl : ℕ → Path → Bool
has_ctrl ctrl path = path.row.ctrl == ctrl

-- The first of these paths that is the controller's, if one is.
abbrev pub path_with : ℕ → List Path → Option Path
path_with ctrl paths = find (has_ctrl ctrl) paths

-- The path is the controller's, and none of the paths before it is.
pub record IsFirstWith (ctrl : ℕ) (paths : List Path) (path : Path) : Type 0 where
  pub before : List Path
  pub after : List Path
  pub parts : paths ≡ before ++ path ∷ after
  pub others : list_any (has_ctrl ctrl) before ≡ false
  pub own : has_ctrl ctrl path ≡ true

-- The path is enabled and in this ANA state.
abbrev pub is_in : ℕ → Path → Bool
is_in state path = is_enabled path.row && (path.row.state == state)
