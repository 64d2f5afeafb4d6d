-- The parts of the rule, in a reader's words.
use Rattle.std.specs.Prelude.{◌≡◌, ◌≢◌, ℕ, ◌+◌, ◌<◌, ◌≤◌, true, false, List, [], ◌∷◌, ◌++◌, Some}
use Rattle.std.specs.List.{All}
use Rattle.mp_words.specs.declared.order.Order.{Order}
use Rattle.mp_words.specs.declared.entry.RowEntry.{RowEntry}
use Rattle.mp_words.specs.declared.entry.OrderEntry.{OrderEntry}
use Rattle.mp_words.specs.Row.{is_given, is_enabled}
use Rattle.mp_words.specs.Effect.{row_after}
use Rattle.mp_core.specs.declared.view.Event.{Event}
use Rattle.mp_core.specs.declared.view.Event.TheVariants.{Gives, Marks, Scans, Orders, Frees}
use Rattle.mp_core.specs.declared.view.Held.{Held}
use Rattle.mp_core.specs.declared.view.Role.TheVariants as role
use Rattle.mp_core.specs.declared.view.Start.{Start}
use Rattle.mp_core.specs.declared.view.View.{View}
use Rattle.mp_core.specs.Kinds.{IsLaneOp}
use Rattle.mp_core.specs.Memory.{Memory, side_at, row_at, depth_at, current_at}
use Rattle.mp_core.specs.Unpacked.{first_status, start_order}
use Rattle.mp_core.specs.Status.{Status, past, has, lists, is_used, status}
use Rattle.mp_core.specs.Views.{flying, last_order, seen_row}
use Rattle.mp_rule.specs.Sequence.{is_quiet}
use Rattle.mp_rule.specs.Rule.{Each, keeping, total, sits, in_order, Opened, Noted, Reads}
use Rattle.mp_rule.specs.History.{Every, makers, order_at}
use Rattle.mp_rule.specs.Sums.{units, room, budget, tickets, out, times, is_lane}
use Rattle.mp_rule.specs.Holds.{start_row}

-- where a slot is, by the keeper's sequence
abbrev pub status_of : Start → List View → ℕ → Status
status_of start views s = status (first_status start s) s (keeping views)

-- The inside of a side is the number of open sections on it. Tickets of notes on one side differ and are below its
-- entries. Entries, versions, sections that have tried no row change, and units stay below 2^30.
pub record SidesCount (m : Memory) (views : List View) : Type 0 where
  pub inside : (x : ℕ) → (side_at m x).inside ≡ total (sits x) views
  pub below : (x : ℕ) → Each (λ _ v. Noted (λ n. n.side ≡ x → n.ticket < (side_at m x).entries) v) views
  pub differ : (x t : ℕ) → total (tickets x t) views ≤ 1
  pub entries : (x : ℕ) → (side_at m x).entries + total units views < 1073741824
  pub rows : (s : ℕ) → (row_at m s).version + total room views < 1073741824
  pub order : m.order.version + total room views < 1073741824

-- Each version of a slot after the start's is in one view's entries, each is what its operation makes of the one
-- before, and the word is the last. What was read and seen agrees with it.
pub record RowsRecorded (start : Start) (m : Memory) (views : List View) : Type 0 where
  pub once : (s n : ℕ) → (start_row start s).version < n → n ≤ (row_at m s).version → total (makers s n) views ≡ 1
  pub within : (s : ℕ) → Every s (λ e. ((start_row start s).version < e.row.version) × (e.row.version ≤ (row_at m s).version)) views
  pub begins : (s : ℕ) → Every s (λ e. e.row.version ≡ (start_row start s).version + 1 → e.row ≡ row_after (start_row start s) e.op) views
  pub follows : (s : ℕ) → Every s (λ e. Every s (λ d. d.row.version ≡ e.row.version + 1 → d.row ≡ row_after e.row d.op) views) views
  pub last : (s : ℕ) → Every s (λ e. e.row.version ≡ (row_at m s).version → e.row ≡ row_at m s) views
  pub first : (s : ℕ) → (row_at m s).version ≡ (start_row start s).version → row_at m s ≡ start_row start s
  pub seen : (s : ℕ) → Each (λ _ v. seen_row v s ≤ (row_at m s).version) views
  pub seen_made : (s : ℕ) → Each (λ _ v. All (λ (e : RowEntry). e.slot ≡ s → e.row.version ≤ seen_row v s) v.entries) views
  pub seen_read : (s : ℕ) → Each (λ _ v. Noted (Reads (λ r. r.version ≤ seen_row v s) s) v) views
  pub read : (s : ℕ) → Each (λ _ v. Noted (Reads (λ r. Every s (λ e. e.row.version ≡ r.version → e.row ≡ r) views) s) v) views
  pub read_first : (s : ℕ) → Each (λ _ v. Noted (Reads (λ r. r.version ≡ (start_row start s).version → r ≡ start_row start s) s) v) views
  pub order_seen : Each (λ _ v. v.seen.order ≤ m.order.version) views
  pub order_read : Each (λ _ v. Noted (λ n. (o : Order) → n.order ≡ Some o → (o.version ≤ v.seen.order) × (o ≡ order_at o.version (start_order start) (keeping views))) v) views

-- The list of paths is the keeper's last and the side index its own. The lanes that are out are those of the views
-- that aren't spent, each once. A row is free exactly where the slot is. No other view has an entry by which a slot
-- was given a path, marked or freed.
pub record OrderKept (start : Start) (m : Memory) (views : List View) : Type 0 where
  pub last : m.order ≡ last_order (start_order start) (keeping views)
  pub index : Each (λ _ v. v.role ≡ role.Keeper → v.keeping.index ≡ m.index) views
  pub listed : (l : ℕ) → times l (out views) ≡ total (is_lane l) views
  pub once : (l : ℕ) → times l (out views) ≤ 1
  pub free : (s : ℕ) → is_given (row_at m s) ≡ is_used (status_of start views s)
  pub lanes : Each (λ i v. i ≢ 0 → All (λ (e : RowEntry). IsLaneOp e.op) v.entries) views

-- A depth is the number of flights on the slot, each of which is of its present path. Flights, sections that have
-- sent nothing, and units are at most the units given at the start.
pub record DepthsCount (start : Start) (m : Memory) (views : List View) : Type 0 where
  pub depth : (s : ℕ) → depth_at m s ≡ total (flying s) views
  pub present : (s g : ℕ) (newer older : List Event) → keeping views ≡ newer ++ Gives s g ∷ older → Each (λ _ v. All (λ f. f.slot ≡ s → g ≤ f.version) v.flights) views
  pub budget : total budget views ≤ start.units

-- After a kept scan no open section on its side has a ticket below its entries.
pub record ScannedIsEmpty (views : List View) : Type 0 where
  pub over : (x e o : ℕ) (newer older : List Event) → keeping views ≡ newer ++ Scans x e o ∷ older → Each (λ _ v. Opened (λ n. n.side ≡ x → e ≤ n.ticket) v) views

-- The version is below each free of the slot among these events.
abbrev pub BelowFrees : ℕ → ℕ → List Event → Type 0
BelowFrees s n [] = Unit {0}
BelowFrees s n (Frees y k ∷ es) = (y ≡ s → n < k) × BelowFrees s n es
BelowFrees s n (e ∷ es) = BelowFrees s n es

-- After a kept scan that stands after a mark, no note on its side with a ticket of at least its entries has read an
-- older row. From the mark to the free each row is marked and not ready.
pub record MarkIsSeen (views : List View) : Type 0 where
  pub seen : (s x e o k : ℕ) (newer mid older : List Event) → keeping views ≡ newer ++ Scans x e o ∷ (mid ++ Marks s k ∷ older) → Each (λ _ v. Noted (λ n. n.side ≡ x → e ≤ n.ticket → Reads (λ r. k ≤ r.version) s n) v) views
  pub off : (s k : ℕ) (newer older : List Event) → keeping views ≡ newer ++ Marks s k ∷ older → Each (λ _ v. Noted (Reads (λ r. k ≤ r.version → BelowFrees s r.version newer → is_enabled r ≡ false) s) v) views
  pub written : (s k : ℕ) (newer older : List Event) → keeping views ≡ newer ++ Marks s k ∷ older → Each (λ _ v. All (λ (e : RowEntry). e.slot ≡ s → k ≤ e.row.version → BelowFrees s e.row.version newer → (e.row.marked ≡ true) × (e.row.ready ≡ false)) v.entries) views

-- After a kept scan that stands after a list of paths was stored, no note on its side with a ticket of at least its
-- entries has read an older list. A cleared node doesn't name the slot. Each current word is none or names a listed
-- slot.
pub record UnlistingIsSeen (start : Start) (m : Memory) (views : List View) : Type 0 where
  pub seen : (x e o : ℕ) (p : OrderEntry) (newer mid older : List Event) → keeping views ≡ newer ++ Scans x e o ∷ (mid ++ Orders p ∷ older) → Each (λ _ v. Noted (λ n. n.side ≡ x → e ≤ n.ticket → (q : Order) → n.order ≡ Some q → p.order.version ≤ q.version) v) views
  pub cleared : (s n : ℕ) (ns : List ℕ) → n < 8 → status_of start views s ≡ past ns → has n ns ≡ true → current_at m n ≢ Some s
  pub named : (n s : ℕ) → n < 8 → current_at m n ≡ Some s → lists s m.order ≡ true

-- What holds of a slot that is free, or was given a path and isn't listed yet, or is past the second grace period and
-- empty: nothing can reach it.
pub record IsSafe (s : ℕ) (m : Memory) (views : List View) : Type 0 where
  pub unlisted : lists s m.order ≡ false
  pub unread : Each (λ _ v. Opened (λ n. in_order s n.order ≡ false) v) views
  pub disabled : Each (λ _ v. Opened (Reads (λ r. is_enabled r ≡ false) s) v) views
  pub empty : Each (λ _ v. flying s v ≡ 0) views
  pub unnamed : (n : ℕ) → n < 8 → current_at m n ≢ Some s
  pub still : Each (λ _ v. (l : Held) → v.keeping.last ≡ Some l → l.slot ≡ s → l.row ≡ row_at m s) views

-- That of each such slot.
pub record ReuseIsSafe (start : Start) (m : Memory) (views : List View) : Type 0 where
  pub safe : (s : ℕ) → is_quiet (status_of start views s) ≡ true → IsSafe s m views
