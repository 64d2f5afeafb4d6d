-- What the keeper's calls do that add a path, begin a removal, and set the policy.
use Rattle.std.specs.Prelude.{◌≡◌, ℕ, zero, suc, ◌-◌, ◌<◌, ◌==◌, Bool, true, false, List, [], ◌∷◌, ◌++◌, position, Option, None, Some, Result, Ok, Err, is_some, slice_set, if◌then◌else◌}
use Rattle.mp_words.specs.declared.row.Row.{Row}
use Rattle.mp_words.specs.declared.row.Policy.{Policy}
use Rattle.mp_words.specs.declared.op.Op.{Op}
use Rattle.mp_words.specs.declared.op.Op.TheVariants as op
use Rattle.mp_words.specs.declared.op.Gift.{Gift}
use Rattle.mp_words.specs.declared.op.Maker.{Maker}
use Rattle.mp_words.specs.declared.entry.RowEntry.{RowEntry}
use Rattle.mp_words.specs.declared.entry.OrderEntry.{OrderEntry}
use Rattle.mp_words.specs.declared.entry.KeepEntry.TheVariants as keep
use Rattle.mp_words.specs.Effect.{clears_of}
use Rattle.mp_words.specs.Order.{slots_of, next_order}
use Rattle.mp_words.specs.Row.{is_given}
use Rattle.mp_core.specs.declared.view.View.{View}
use Rattle.mp_core.specs.Core.{Core, stepped, looked}
use Rattle.mp_core.specs.Memory.{Memory, row_in, order_in}
use Rattle.mp_core.specs.Views.{passed, row_held, row_kept, keep_moved, order_stored}
use Rattle.mp_core.specs.Kinds.{IsAlone, RowTold, RowMoved, entry_of, status_at}
use Rattle.mp_core.specs.Status.{is_used, lists}
use Rattle.mp_change.specs.Clears.{clears_in, clears_view, emptied_upto_in}
use Rattle.mp_keep.specs.declared.added.Added.{Added}
use Rattle.mp_keep.specs.declared.add_error.AddError.{AddError}
use Rattle.mp_keep.specs.declared.add_error.AddError.TheVariants.{Already, NoSlot, OrderFull}
use Rattle.mp_keep.specs.declared.remove_error.RemoveError.{RemoveError}
use Rattle.mp_keep.specs.declared.remove_error.RemoveError.TheVariants.{NoPath, Moved}
use Rattle.mp_keep.specs.declared.stage.Stage.TheVariants.{Marked}
use Rattle.mp_keep.specs.Keeper.{KeeperView, StandsTo, removal_of}

-- a slot has this controller, or none where none is asked for
abbrev pub is_owner : Option ℕ → Option ℕ → Bool
is_owner None None = true
is_owner None (Some owner) = false
is_owner (Some ctrl) None = false
is_owner (Some ctrl) (Some owner) = owner == ctrl

-- the slot that a controller has, listed or under removal
abbrev pub slot_with : KeeperView → ℕ → Option ℕ
slot_with k ctrl = position (is_owner (Some ctrl)) k.owners

-- the least free slot
abbrev pub free_slot : KeeperView → Option ℕ
free_slot k = position (is_owner None) k.owners

-- the slot, unless it is under removal
abbrev pub unless_removed : KeeperView → Option ℕ → Option ℕ
unless_removed k None = None
unless_removed k (Some slot) = if is_some (removal_of k.removals slot) then None else Some slot

-- the slot of a controller's path that isn't under removal
abbrev pub path_slot : KeeperView → ℕ → Option ℕ
path_slot k ctrl = unless_removed k (slot_with k ctrl)

-- The refusal of a new path by the slot that its controller has, and the least free one: first that the controller has
-- one, then that none is free, then that eight are listed.
abbrev pub refusal_by : KeeperView → Option ℕ → Option ℕ → Option AddError
refusal_by k (Some slot) free = Some (Already slot)
refusal_by k None None = Some NoSlot
refusal_by k None (Some slot) = if k.order.len == 8 then Some OrderFull else None

-- the refusal of a new path for a controller
abbrev pub add_refusal : KeeperView → ℕ → Option AddError
add_refusal k ctrl = refusal_by k (slot_with k ctrl) (free_slot k)

-- the next list of paths with this policy and these slots, and its maker
abbrev pub next_entry : KeeperView → Policy → List ℕ → Maker → OrderEntry
next_entry k policy slots by = record { order = next_order k.order policy slots; by = by }

-- the keeper after it stored a list of paths
abbrev pub with_order : OrderEntry → KeeperView → KeeperView
with_order e k = record k { order = e.order; entries = k.entries ++ keep.Order e ∷ []; spare = k.spare - 1 }

-- the keeper with this controller for a slot, or with none for it
abbrev pub with_owner : ℕ → Option ℕ → KeeperView → KeeperView
with_owner slot owner k = record k { owners = slice_set k.owners slot owner }

-- the operation gives a free slot a path
abbrev pub IsGive : Op → Type 0
IsGive (op.Give gift) = Unit {0}
IsGive operation = ⊥

-- A row was loaded, and changed to what an operation makes of it, by the keeper, whom nobody else comes between.
pub record KeepsOne (a b : Core) (slot : ℕ) (operation : Op) (by : Maker) (entry : RowEntry) : Type 0 where
  pub old : Row
  pub found : RowTold a slot old
  pub used : is_given old ≡ is_used (status_at slot a.view)
  pub row : entry ≡ entry_of slot old operation by
  pub core : b ≡ stepped (row_kept entry) (row_in slot entry.row) (looked (row_held slot old) a)

-- the view after so many steps by which nothing is known but that they were made
abbrev pub passed_upto : ℕ → View → View
passed_upto zero v = v
passed_upto (suc n) v = passed (passed_upto n v)

-- the view after a path was given to a slot and listed: the row of the slot was loaded and changed, the list stored,
-- and the current words cleared
abbrev pub added_view : ℕ → Row → Added → View → View
added_view slot old added v =
    clears_view (clears_of added.row.op added.row.row) slot
    (order_stored added.order (row_kept added.row (row_held slot old v)))

-- the words after a path was given to a slot and listed
abbrev pub added_in : ℕ → Added → Memory → Memory
added_in slot added m =
    clears_in (clears_of added.row.op added.row.row) slot (order_in added.order.order (row_in slot added.row.row m))

-- A path was given to the least free slot, which held a free row, and listed last.
pub record AddsIn (k l : KeeperView) (a b : Core) (gift : Gift) (by : Maker) (slot : ℕ) (added : Added) : Type 0 where
  pub old : Row
  pub found : RowTold a slot old
  pub free : is_given old ≡ false
  pub row : added.row ≡ entry_of slot old (op.Give gift) by
  pub order : added.order ≡ next_entry k k.order.policy (slots_of k.order ++ slot ∷ []) by
  pub keeper : l ≡ with_order added.order (with_owner slot (Some gift.ctrl) k)
  pub core : b ≡ stepped (added_view slot old added) (added_in slot added) a

-- How an add ends: with a path in the least free slot, where nothing refuses it, or with its refusal, which does
-- nothing.
abbrev pub AddTo : KeeperView → KeeperView → Core → Core → Gift → Maker → Result Added AddError → Type 0
AddTo k l a b gift by (Err e) = (add_refusal k gift.ctrl ≡ Some e) × (b ≡ a) × (l ≡ k)
AddTo k l a b gift by (Ok added) =
    (add_refusal k gift.ctrl ≡ None) × (slot : ℕ) × (free_slot k ≡ Some slot) × AddsIn k l a b gift by slot added

-- What an add does.
pub record Adds (k l : KeeperView) (a b : Core) (gift : Gift) (by : Maker) (answer : Result Added AddError) : Type 0 where
  pub to : AddTo k l a b gift by answer
  pub stands : StandsTo l b.view

-- the keeper with a removal more, of a slot whose marked row has this version
abbrev pub with_removal : ℕ → ℕ → KeeperView → KeeperView
with_removal slot version k =
    record k { removals = k.removals ++ record { slot = slot; mark = version; stage = Marked } ∷ [] }

-- What the keeper knows once it loaded the row of a slot.
abbrev pub held : ℕ → Row → Core → Core
held slot row a = looked (row_held slot row) a

-- The row of a slot was marked, and its removal is under way.
pub record MarksRow (k l : KeeperView) (a b : Core) (by : Maker) (slot : ℕ) (entry : RowEntry) : Type 0 where
  pub old : Row
  pub found : RowTold a slot old
  pub given : is_given old ≡ true
  pub row : entry ≡ entry_of slot old op.Mark by
  pub keeper : l ≡ record (with_removal slot entry.row.version k) { spare = l.spare }
  pub core : b ≡ stepped (row_kept entry) (row_in slot entry.row) (held slot old a)

-- The row of a slot changed between its load and the mark, which therefore did nothing: another pass changed it, so the
-- words aren't told, and a lane is out.
pub record MeetsRow (k l : KeeperView) (a b : Core) (slot : ℕ) (row : Row) : Type 0 where
  pub old : Row
  pub found : RowTold a slot old
  pub given : is_given old ≡ true
  pub moved : RowMoved (held slot old a) slot old row
  pub untold : (m : Memory) → a.told ≡ Some m → ⊥
  pub out : IsAlone a → ⊥
  pub keeper : l ≡ k
  pub core : b ≡ looked (keep_moved slot row) (held slot old a)

-- The slot is listed, and isn't under removal.
pub record IsPath (k : KeeperView) (slot : ℕ) : Type 0 where
  pub below : slot < 15
  pub listed_is : lists slot k.order ≡ true
  pub stays : removal_of k.removals slot ≡ None

-- How the mark of a slot's row ends.
abbrev pub MarksTo : KeeperView → KeeperView → Core → Core → ℕ → Maker → Result RowEntry RemoveError → Type 0
MarksTo k l a b slot by (Err (NoPath order)) = ⊥
MarksTo k l a b slot by (Err (Moved row)) = MeetsRow k l a b slot row
MarksTo k l a b slot by (Ok entry) = MarksRow k l a b by slot entry

-- How a removal begins: with the mark, or with the row that stood there, where the controller has a path that isn't
-- under removal; else with the keeper's list of paths, which does nothing.
abbrev pub RemoveTo : KeeperView → KeeperView → Core → Core → ℕ → Maker → Result RowEntry RemoveError → Type 0
RemoveTo k l a b ctrl by (Err (NoPath order)) = (path_slot k ctrl ≡ None) × (order ≡ k.order) × (b ≡ a) × (l ≡ k)
RemoveTo k l a b ctrl by (Err (Moved row)) = (slot : ℕ) × (path_slot k ctrl ≡ Some slot) × MeetsRow k l a b slot row
RemoveTo k l a b ctrl by (Ok entry) = (slot : ℕ) × (path_slot k ctrl ≡ Some slot) × MarksRow k l a b by slot entry

-- What the begin of a removal does.
pub record Removes (k l : KeeperView) (a b : Core) (ctrl : ℕ) (by : Maker) (answer : Result RowEntry RemoveError) : Type 0 where
  pub to : RemoveTo k l a b ctrl by answer
  pub stands : StandsTo l b.view

-- What a change of the policy does: the next list of paths has the same slots, and every current word becomes none.
pub record SetsPolicy (k l : KeeperView) (a b : Core) (policy : Policy) (by : Maker) (entry : OrderEntry) : Type 0 where
  pub order : entry ≡ next_entry k policy (slots_of k.order) by
  pub keeper : l ≡ with_order entry k
  pub core : b ≡ stepped (λ v. passed (order_stored entry v)) (λ m. emptied_upto_in 8 (order_in entry.order m)) a
  pub stands : StandsTo l b.view
