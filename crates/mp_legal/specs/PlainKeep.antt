-- The keeper's calls.
use Rattle.std.specs.Prelude.{ℕ, ◌+◌, Bool, not, ◌&&◌, ◌==◌, List, [], ◌∷◌, ◌++◌, filter, find, position, Option, Some, None, if◌then◌else◌}
use Rattle.std.specs.List.{list_any}
use Rattle.mp_words.specs.declared.row.Policy.{Policy}
use Rattle.mp_words.specs.declared.op.Gift.{Gift}
use Rattle.mp_words.specs.declared.op.Op.TheVariants as op
use Rattle.mp_words.specs.declared.entry.RowEntry.{RowEntry}
use Rattle.mp_record.specs.declared.event.Said.TheVariants as said
use Rattle.mp_words.specs.Row.{is_given}
use Rattle.mp_words.specs.Order.{slots_of, next_order}
use Rattle.mp_words.specs.Effect.{cleared, every_one, the_slots}
use Rattle.mp_words.specs.declared.path.Path.{Path}
use Rattle.mp_words.specs.PathTable.{has_ctrl}
use Rattle.mp_legal.specs.Answers.{through_first}
use Rattle.mp_legal.specs.PlainState.{State, paths_of, depth_of, entry_of}
use Rattle.mp_legal.specs.Stepped.{Stepped, Place, maker_of, says, enters, makes, stores, and_then, each}

-- the slot is one of these
abbrev pub is_among : List ℕ → ℕ → Bool
is_among slots slot = list_any (λ other. other == slot) slots

-- the slots but this one
abbrev pub without : ℕ → List ℕ → List ℕ
without slot slots = filter (λ other. not (other == slot)) slots

-- the slot that a controller has
abbrev pub slot_with : State → ℕ → Option ℕ
slot_with s ctrl = position (λ row. is_given row && (row.ctrl == ctrl)) s.rows

-- the least free slot
abbrev pub free_slot : State → Option ℕ
free_slot s = position (λ row. not (is_given row)) s.rows

-- a slot is given this row, and listed last
abbrev pub given : Place → State → RowEntry → Stepped
given at s entry =
    and_then (enters s entry)
    (λ t. and_then (stores at t (next_order t.order t.order.policy (slots_of t.order ++ entry.slot ∷ [])))
    (λ u. says at u (said.Added entry.slot entry.row.version u.order.version)))

-- a new path in a slot, if there is one and the list has room
abbrev pub given_in : Place → State → Gift → Option ℕ → Stepped
given_in at s gift None = says at s said.NoSlot
given_in at s gift (Some slot) =
    if s.order.len == 8 then says at s said.OrderFull else given at s (entry_of s slot (op.Give gift) (maker_of at))

-- a new path, unless its controller has a slot
abbrev pub given_unless : Place → State → Gift → Option ℕ → Stepped
given_unless at s gift (Some slot) = says at s (said.Already slot)
given_unless at s gift None = given_in at s gift (free_slot s)

-- a new path in the least free slot, listed last
abbrev pub added : Place → State → Gift → Stepped
added at s gift = given_unless at s gift (slot_with s gift.ctrl)

-- the path's slot is marked, and its removal is under way
abbrev pub marked : Place → State → Option Path → Stepped
marked at s None = says at s (said.NoPath s.order.version)
marked at s (Some path) =
    makes at (record s { removals = s.removals ++ path.slot ∷ [] })
    (entry_of s path.slot op.Mark (maker_of at)) (said.Marked path.slot (path.row.version + 1))

-- a removal of a controller's path begins, unless all that it has are under removal
abbrev pub removed : Place → State → ℕ → Stepped
removed at s ctrl =
    marked at s (find (λ path. has_ctrl ctrl path && not (is_among s.removals path.slot)) (paths_of s))

-- another policy, or the same again; no last choice is left
abbrev pub policy_set : Place → State → Policy → Stepped
policy_set at s policy =
    and_then (stores at (record s { lasts = cleared every_one 0 s.lasts }) (next_order s.order policy (slots_of s.order)))
    (λ t. says at t (said.Policy t.order.version))

-- a slot leaves the list, between two graces of one flip each
abbrev pub unlisted : Place → State → ℕ → Stepped
unlisted at s slot =
    stores at (record s { lasts = cleared the_slots slot s.lasts; flips = s.flips + 2 })
    (next_order s.order s.order.policy (without slot (slots_of s.order)))

-- a slot is free again, and its removal is over
abbrev pub freed : Place → State → ℕ → Stepped
freed at s slot = over (entry_of s slot op.Free (maker_of at))
  where
    over : RowEntry → Stepped
    over entry = makes at (record s { removals = without slot s.removals }) entry (said.Freed slot entry.row.version s.flips)

-- nothing flies on the slot
abbrev pub is_idle : State → ℕ → Bool
is_idle s slot = depth_of s slot == 0

-- an idle slot is freed; without one the flights on the oldest are told
abbrev pub freed_or_again : Place → ℕ → Option ℕ → State → Stepped
freed_or_again at oldest (Some slot) s = freed at s slot
freed_or_again at oldest None s = says at s (said.AgainDepth oldest (depth_of s oldest))

-- The slots under removal, from the oldest through the first idle one, leave the list, and the idle one is freed.
abbrev pub reaped_from : Place → State → List ℕ → Stepped
reaped_from at s [] = says at s said.Idle
reaped_from at s (oldest ∷ others) =
    and_then
    (each (unlisted at) s (filter (is_among (slots_of s.order)) (through_first (is_idle s) (oldest ∷ others))))
    (freed_or_again at oldest (find (is_idle s) (oldest ∷ others)))

-- the removals are carried as far as they go
abbrev pub reaped : Place → State → Stepped
reaped at s = reaped_from at s s.removals
