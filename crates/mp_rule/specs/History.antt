-- The history of a slot's row and of the order, over all views.
use Rattle.std.specs.Prelude.{◌≡◌, ℕ, ◌+◌, ◌<◌, ◌≤◌, ◌==◌, List, [], ◌∷◌, Some, cond}
use Rattle.std.specs.List.{All}
use Rattle.mp_words.specs.declared.row.Row.{Row}
use Rattle.mp_words.specs.declared.order.Order.{Order}
use Rattle.mp_words.specs.declared.note.Note.{Note}
use Rattle.mp_words.specs.declared.entry.RowEntry.{RowEntry}
use Rattle.mp_words.specs.Effect.{row_after}
use Rattle.mp_core.specs.declared.view.Event.{Event}
use Rattle.mp_core.specs.declared.view.Event.TheVariants.{Orders}
use Rattle.mp_core.specs.declared.view.Held.{Held}
use Rattle.mp_core.specs.declared.view.View.{View}
use Rattle.mp_core.specs.Views.{seen_row}
use Rattle.mp_core.specs.Kinds.{IsLaneOp}
use Rattle.mp_rule.specs.Rule.{total, Each, tick, Noted, Reads}

-- A fact of each entry of a slot, in any view.
abbrev pub Every : ℕ → (RowEntry → Type 0) → List View → Type 0
Every s P views = Each (λ _ v. All (λ (e : RowEntry). e.slot ≡ s → P e) v.entries) views

-- how many of these entries are of this slot and version
abbrev pub counts : ℕ → ℕ → List RowEntry → ℕ
counts s n [] = 0
counts s n (e ∷ es) = cond (e.slot == s) (tick (e.row.version == n)) 0 + counts s n es

-- how many entries of this slot and version a view has
abbrev pub makers : ℕ → ℕ → View → ℕ
makers s n v = counts s n v.entries

-- A row that was read is the one of its version, which is from the start's to this one.
pub record ReadAt (s : ℕ) (first row : Row) (most : ℕ) (views : List View) (r : Row) : Type 0 where
  pub from : first.version ≤ r.version
  pub to : r.version ≤ most
  pub start : r.version ≡ first.version → r ≡ first
  pub last : r.version ≡ row.version → r ≡ row
  pub is : Every s (λ e. e.row.version ≡ r.version → e.row ≡ r) views

-- What one view has of the slot: its greatest version seen is from the start's to the word's, its entries and the
-- rows read are not newer than that, and each row read is the one of its version.
pub record ViewAt (s : ℕ) (first row : Row) (views : List View) (v : View) : Type 0 where
  pub from : first.version ≤ seen_row v s
  pub to : seen_row v s ≤ row.version
  pub own : All (λ (e : RowEntry). e.slot ≡ s → e.row.version ≤ seen_row v s) v.entries
  pub reads : Noted (Reads (ReadAt s first row (seen_row v s) views) s) v
  pub held : (l : Held) → v.keeping.last ≡ Some l → l.slot ≡ s → ReadAt s first row (seen_row v s) views l.row

-- The history of one slot's row: each version after the start's is in exactly one entry, each is what its operation
-- makes of the one before, and the word is the last.
pub record RowsAt (s : ℕ) (first row : Row) (views : List View) : Type 0 where
  pub from : first.version ≤ row.version
  pub start : row.version ≡ first.version → row ≡ first
  pub within : Every s (λ e. (first.version < e.row.version) × (e.row.version ≤ row.version)) views
  pub last : Every s (λ e. e.row.version ≡ row.version → e.row ≡ row) views
  pub begins : Every s (λ e. e.row.version ≡ first.version + 1 → e.row ≡ row_after first e.op) views
  pub follows : Every s (λ e. Every s (λ d. d.row.version ≡ e.row.version + 1 → d.row ≡ row_after e.row d.op) views) views
  pub once : (n : ℕ) → first.version < n → n ≤ row.version → total (makers s n) views ≡ 1
  pub each : Each (λ _ v. ViewAt s first row views v) views

-- the list of paths of this version, by the keeper's sequence
abbrev pub order_at : ℕ → Order → List Event → Order
order_at n first [] = first
order_at n first (Orders e ∷ es) = cond (e.order.version == n) e.order (order_at n first es)
order_at n first (e ∷ es) = order_at n first es

-- The list of paths that the note has read is the one of its version, which is at most this one.
abbrev pub OrderAt : Order → ℕ → List Event → Note → Type 0
OrderAt first most es n = (o : Order) → n.order ≡ Some o → (o.version ≤ most) × (o ≡ order_at o.version first es)

-- What one view has read of the list of paths: nothing newer than it has seen, and each list the one of its version.
-- The keeper has seen the last.
pub record ViewOrder (first order : Order) (es : List Event) (i : ℕ) (v : View) : Type 0 where
  pub from : first.version ≤ v.seen.order
  pub to : v.seen.order ≤ order.version
  pub own : i ≡ 0 → order.version ≤ v.seen.order
  pub reads : Noted (OrderAt first v.seen.order es) v

-- No view but the keeper's has an entry by which a slot was given a path, marked or freed.
abbrev pub LaneEntries : ℕ → View → Type 0
LaneEntries i v = (i ≡ 0 → ⊥) → All (λ (e : RowEntry). IsLaneOp e.op) v.entries
