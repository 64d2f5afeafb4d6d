-- How a section that has read the order selects a path.
use Rattle.std.specs.Prelude.{◌≡◌, ℕ, ◌<◌, ◌≤◌, true, false, List, length, Option, None, Some, slice_index_or, ◌&&◌, nat_lt}
use Rattle.std.specs.Option.{is_some}
use Rattle.mp_words.specs.declared.row.Policy.{Policy}
use Rattle.mp_words.specs.declared.row.Policy.TheVariants.{RoundRobin, QueueDepth}
use Rattle.mp_words.specs.declared.near.Near.{Near}
use Rattle.mp_words.specs.declared.note.Note.{Note}
use Rattle.mp_words.specs.declared.order.Order.{Order}
use Rattle.mp_words.specs.Row.{is_usable}
use Rattle.mp_words.specs.PathTable.{paths_of}
use Rattle.mp_policy.specs.Choices.{has_usable}
use Rattle.mp_core.specs.declared.view.Section.{Section}
use Rattle.mp_core.specs.Core.{Core, Tells}
use Rattle.mp_core.specs.Memory.{Memory, current_at, depth_at}
use Rattle.mp_core.specs.Notes.{HasUsable}
use Rattle.mp_core.specs.Views.{flying}
use Rattle.mp_core.specs.Reads.{IsNote, IsWhole, RowsRead, Later, loaded, row_of_place, slot_of}
use Rattle.mp_submit.specs.Choice.{IsLawful, told_choice, keeps_choice, slot_of_choice}

-- The section, with what a selection adds to its note: rows, the current path, and depths.
abbrev pub with_reads : Note → Section → Section
with_reads n s = record s { note = record (s.note) { reading = record (s.note.reading) { rows = n.reading.rows }; read = n.read; current = n.current; depths = n.depths } }

-- Each depth that was read is at least the number of this pass's own flights on the slot.
abbrev pub DepthsRead : Core → Note → Type 0
DepthsRead a n = (place depth : ℕ) → slice_index_or n.depths place None ≡ Some depth → flying (slot_of n.reading place) a.view ≤ depth

-- A current path that was read is the node's on these words.
abbrev pub CurrentTold : ℕ → Memory → Note → Type 0
CurrentTold node m n = (current : Option ℕ) → n.current ≡ Some current → current ≡ current_at m node

-- The depths that were read are those of these words.
abbrev pub DepthsTold : Memory → Note → Type 0
DepthsTold m n = (place depth : ℕ) → slice_index_or n.depths place None ≡ Some depth → depth ≡ depth_at m (slot_of n.reading place)

-- The section, with these depths.
abbrev pub with_depths : List (Option ℕ) → Section → Section
with_depths depths s = record s { note = record (s.note) { depths = depths } }

-- The depths of the slots at the first places whose rows are usable are loaded, in list order.
pub record LoadsDepths (upto : ℕ) (a b : Core) (s t : Section) : Type 0 where
  pub section : t ≡ with_depths t.note.depths s
  pub after : b ≡ loaded t a.view.seen a
  pub count : length t.note.depths ≡ 8
  pub own : DepthsRead a t.note
  pub just : (place : ℕ) → is_some (slice_index_or t.note.depths place None) ≡ (nat_lt place upto && is_usable (row_of_place t.note.reading place))
  pub told : Tells a (λ m. (place : ℕ) → place < upto → is_usable (row_of_place t.note.reading place) ≡ true → slice_index_or t.note.depths place None ≡ Some (depth_at m (slot_of t.note.reading place)))

-- All that a policy looks at is loaded: the rows of all listed slots, under round robin the node's current path, and
-- under queue depth the depths of the slots whose rows are usable.
pub record ReadsAll (policy : Policy) (node : ℕ) (a b : Core) (s t : Section) : Type 0 where
  pub section : t ≡ with_reads t.note s
  pub after : b ≡ loaded t b.view.seen a
  pub note : IsNote t.note
  pub later : Later a b.view.seen
  pub whole : IsWhole t.note
  pub rows : RowsRead a b.view.seen t.note
  pub own : DepthsRead a t.note
  pub current : policy ≡ RoundRobin → Tells a (λ m. t.note.current ≡ Some (current_at m node))
  pub depths : policy ≡ QueueDepth → Tells a (λ m. (place : ℕ) → place < t.note.reading.len → is_usable (row_of_place t.note.reading place) ≡ true → slice_index_or t.note.depths place None ≡ Some (depth_at m (slot_of t.note.reading place)))

-- A selection by the policy, once the list of paths is loaded: what it loads, and the choice.
pub record Selects (near : Near) (node : ℕ) (order : Order) (a b : Core) (s t : Section) (choice : Option ℕ) : Type 0 where
  pub section : t ≡ with_reads t.note s
  pub after : b ≡ loaded t b.view.seen a
  pub note : IsNote t.note
  pub later : Later a b.view.seen
  pub rows : RowsRead a b.view.seen t.note
  pub own : DepthsRead a t.note
  pub lawful : IsLawful near node t.note choice
  pub usable : (slot : ℕ) → choice ≡ Some slot → HasUsable t.note slot
  pub none : choice ≡ None → has_usable (paths_of t.note.reading) ≡ false
  pub current : keeps_choice order.policy ≡ true → Tells a (λ m. t.note.current ≡ Some (current_at m node))
  pub told : Tells a (λ m. order ≡ m.order → choice ≡ slot_of_choice (told_choice near node m))
  pub told_current : Tells a (λ m. CurrentTold node m t.note)
  pub told_depths : Tells a (λ m. DepthsTold m t.note)
