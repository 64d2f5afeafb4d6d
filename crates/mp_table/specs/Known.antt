-- What a pass knows, and what holds of it between any two of its steps.
use Rattle.std.specs.Prelude.{◌≡◌, ℕ, ◌+◌, ◌<◌, Bool, true, false, List, [], ◌∷◌, None, Some}
use Rattle.atomic_table.specs.Seated.{TableId}
use Rattle.mp_words.specs.declared.row.Row.{Row}
use Rattle.mp_words.specs.Row.{is_given}
use Rattle.mp_words.specs.Facts.{IsRow}
use Rattle.mp_core.specs.declared.view.Section.{Section}
use Rattle.mp_core.specs.declared.view.Held.{Held}
use Rattle.mp_core.specs.declared.view.Role.{Role}
use Rattle.mp_core.specs.declared.view.Role.TheVariants as role
use Rattle.mp_core.specs.declared.view.View.{View}
use Rattle.mp_core.specs.Core.{Core}
use Rattle.mp_core.specs.Notes.{HasRow}
use Rattle.mp_core.specs.Kinds.{status_at}
use Rattle.mp_core.specs.Status.{is_used}
use Rattle.mp_core.specs.Views.{last_version}
use Rattle.mp_rule.specs.Rule.{IsFormed, Opened}

-- whether no lane is out, by whose view it is and by the lanes that are out
abbrev pub alone_by : Role → List ℕ → Bool
alone_by role.Keeper [] = true
alone_by role.Keeper (l ∷ lanes) = false
alone_by (role.Lane l) lanes = false
alone_by role.Spent lanes = false

-- whether no lane is out: only the keeper's pass can know it
abbrev pub is_alone : View → Bool
is_alone v = alone_by v.role v.keeping.out

-- what a pass over the table knows, as the traits' contracts have it: the words aren't told
abbrev pub core_on : TableId → ℕ → View → Core
core_on home lane v = record { home = home; lane = lane; alone = is_alone v; others = []; view = v; told = None }

-- The row fits a word, and its slot has a path.
pub record RowFits (row : Row) : Type 0 where
  pub stored : IsRow row
  pub below : row.version < 1073741824
  pub given : is_given row ≡ true

-- The row that the keeper holds fits a word, and its slot has a path exactly where the sequence says that it is used.
pub record HeldFits (v : View) (l : Held) : Type 0 where
  pub stored : IsRow l.row
  pub below : l.row.version < 1073741824
  pub used : is_given l.row ≡ is_used (status_at l.slot v)

-- Each row that the open section has, and the one that the keeper holds, fits a word.
pub record RowsFit (v : View) : Type 0 where
  pub rows : (t : Section) → v.inside ≡ Some t → (slot : ℕ) (row : Row) → HasRow t.note slot row → RowFits row
  pub held : (l : Held) → v.keeping.last ≡ Some l → HeldFits v l

-- What a pass knows fits the words: its rows, the note of its open section, and the versions of the lists of paths that
-- the keeper may still store.
pub record Fits (v : View) : Type 0 where
  pub rows : RowsFit v
  pub formed : Opened IsFormed v
  pub lists : v.role ≡ role.Keeper → last_version v + v.left < 1073741824

-- The pass is the same, with so many units left.
pub record Stays (n : ℕ) (v w : View) : Type 0 where
  pub role : w.role ≡ v.role
  pub index : w.keeping.index ≡ v.keeping.index
  pub left : w.left ≡ n
