-- Words on which a core may begin, and the view with which it begins.
use Rattle.std.specs.Prelude.{◌≡◌, ℕ, ◌+◌, ◌<◌, zero, suc, true, false, List, [], ◌∷◌, None, Some}
use Rattle.mp_words.specs.declared.row.Row.{Row}
use Rattle.mp_words.specs.Row.{is_given}
use Rattle.mp_words.specs.Facts.{IsRow, IsOrder}
use Rattle.mp_core.specs.declared.view.Role.TheVariants as role
use Rattle.mp_core.specs.declared.view.SeenRow.{SeenRow}
use Rattle.mp_core.specs.declared.view.Start.{Start}
use Rattle.mp_core.specs.declared.view.View.{View}
use Rattle.mp_core.specs.Memory.{Memory, side_at, row_at, depth_at, current_at}
use Rattle.mp_core.specs.Unpacked.{unpacked, start_order}
use Rattle.mp_core.specs.Status.{lists}
use Rattle.mp_rule.specs.Holds.{start_row, IsSized}

-- Words on which a core may begin: nobody is inside, no flight is on its way, a listed row isn't free, a marked one
-- isn't ready, and each current word is none or names a listed slot.
pub record IsLawful (m : Memory) : Type 0 where
  pub sized : IsSized m
  pub index : m.index < 2
  pub nobody : (x : ℕ) → (side_at m x).inside ≡ 0
  pub idle : (s : ℕ) → depth_at m s ≡ 0
  pub given : (s : ℕ) → lists s m.order ≡ true → is_given (row_at m s) ≡ true
  pub off : (s : ℕ) → (row_at m s).marked ≡ true → (row_at m s).ready ≡ false
  pub named : (n s : ℕ) → n < 8 → current_at m n ≡ Some s → lists s m.order ≡ true
  pub rows : (s : ℕ) → IsRow (row_at m s)
  pub order : IsOrder m.order

-- So many units fit above every number of entries and every version.
pub record HasRoom (m : Memory) (units : ℕ) : Type 0 where
  pub entries : (x : ℕ) → (side_at m x).entries + units < 1073741824
  pub rows : (s : ℕ) → (row_at m s).version + units < 1073741824
  pub order : m.order.version + units < 1073741824

-- the versions of the first rows, as seen
abbrev pub seen_rows : ℕ → (ℕ → Row) → List SeenRow
seen_rows zero rows = []
seen_rows (suc n) rows = record { slot = n; version = (rows n).version } ∷ seen_rows n rows

-- the keeper's view at the start, which has seen the versions of the start
abbrev pub opening_view : Start → View
opening_view s = record {
  role = role.Keeper;
  left = s.units;
  inside = None;
  done = [];
  flights = [];
  entries = [];
  seen = record { order = (start_order s).version; rows = seen_rows 15 (start_row s) };
  keeping = record { start = s; out = []; index = (unpacked s.words).index; flips = 0; events = []; looks = []; last = None };
}
