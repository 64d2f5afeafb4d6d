-- Where a slot is, by the keeper's sequence, newest event first.
use Rattle.std.specs.Prelude.{◌≡◌, ℕ, zero, suc, ◌==◌, Bool, true, false, List, [], ◌∷◌, cond}
use Rattle.std.specs.List.{list_any}
use Rattle.mp_words.specs.declared.row.Row.{Row}
use Rattle.mp_words.specs.declared.order.Order.{Order}
use Rattle.mp_words.specs.Order.{slots_of}
use Rattle.mp_words.specs.Row.{is_given}
use Rattle.mp_core.specs.declared.view.Event.{Event}
use Rattle.mp_core.specs.declared.view.Event.TheVariants.{Gives, Marks, Scans, Clears, Orders, Zeros, Frees}

-- Where a slot is in the keeper's sequence. Unused: free. Fresh: given a path and not yet listed. Listed: listed and
-- not marked. Leaving: marked, with a scan of side 0 and of side 1 that found nobody inside since then, or not. Past:
-- both scans were made, and these nodes' current words were cleared since. Gone: not listed any more, with such scans
-- since then, or not. Bare: both were made, and then its depth was read as 0.
pub data Status : Type 0 where
  unused : Status
  fresh : Status
  listed : Status
  leaving : Bool → Bool → Status
  past : List ℕ → Status
  gone : Bool → Bool → Status
  bare : Status

-- the list has this number
abbrev pub has : ℕ → List ℕ → Bool
has n xs = list_any (λ x. x == n) xs

-- the list of paths has the slot
abbrev pub lists : ℕ → Order → Bool
lists s o = has s (slots_of o)

-- a marked slot with these scans: past the first grace period where both were made
abbrev pub closed : Bool → Bool → Status
closed true true = past []
closed a b = leaving a b

-- the status after a scan of a side found nobody inside
abbrev pub scanned : ℕ → Status → Status
scanned zero (leaving a b) = closed true b
scanned (suc x) (leaving a b) = closed a true
scanned zero (gone a b) = gone true b
scanned (suc x) (gone a b) = gone a true
scanned x st = st

-- the status after the current word of a node was cleared
abbrev pub cleared : ℕ → Status → Status
cleared n (past ns) = past (n ∷ ns)
cleared n st = st

-- the status after a list of paths was stored that has the slot, or has it not
abbrev pub ordered : Bool → Status → Status
ordered true fresh = listed
ordered false (past ns) = gone false false
ordered b st = st

-- the status after the slot's depth was read as 0
abbrev pub emptied : Status → Status
emptied (gone true true) = bare
emptied st = st

-- the status of a slot after an event
abbrev pub after : ℕ → Event → Status → Status
after s (Gives x m) st = cond (x == s) fresh st
after s (Marks x m) st = cond (x == s) (leaving false false) st
after s (Scans x e o) st = scanned x st
after s (Clears n x) st = cond (x == s) (cleared n st) st
after s (Orders o) st = ordered (lists s o.order) st
after s (Zeros x) st = cond (x == s) (emptied st) st
after s (Frees x m) st = cond (x == s) unused st

-- the status of a slot after these events, the newest first, with this one at the start
abbrev pub status : Status → ℕ → List Event → Status
status first s [] = first
status first s (e ∷ es) = after s e (status first s es)

-- the status at the start, by whether the slot has a path, whether that is marked, and whether it is listed
abbrev pub begins : Bool → Bool → Bool → Status
begins false m l = unused
begins true false true = listed
begins true false false = fresh
begins true true true = past []
begins true true false = gone true true

-- the status at the start of a slot with this row, which is listed or not
abbrev pub first_of_row : Row → Bool → Status
first_of_row r l = begins (is_given r) r.marked l

-- the slot isn't free
abbrev pub is_used : Status → Bool
is_used unused = false
is_used st = true

-- the slot is past the first grace period, and cleared at each of the eight nodes
abbrev pub is_cleared : Status → Bool
is_cleared (past ns) = cond (has 0 ns) (cond (has 1 ns) (cond (has 2 ns) (cond (has 3 ns) (cond (has 4 ns) (cond (has 5 ns) (cond (has 6 ns) (has 7 ns) false) false) false) false) false) false) false
is_cleared st = false

-- What the next list of paths may do with a slot: list one that was given a path and not yet listed, leave out one
-- that was cleared at each node, or leave a slot as it is.
abbrev pub MayOrder : Bool → Status → Type 0
MayOrder true unused = ⊥
MayOrder true (gone a b) = ⊥
MayOrder true bare = ⊥
MayOrder true st = Unit {0}
MayOrder false listed = ⊥
MayOrder false (leaving a b) = ⊥
MayOrder false (past ns) = is_cleared (past ns) ≡ true
MayOrder false st = Unit {0}
