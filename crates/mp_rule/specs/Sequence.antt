-- What the keeper's sequence says of a slot, newest event first.
use Rattle.std.specs.Prelude.{ℕ, zero, suc, ◌==◌, leb, Bool, true, false, List, [], ◌∷◌, cond, max}
use Rattle.mp_core.specs.declared.view.Event.{Event}
use Rattle.mp_core.specs.declared.view.Event.TheVariants.{Gives, Marks, Scans, Orders, Frees}
use Rattle.mp_core.specs.Status.{Status, unused, fresh, listed, leaving, past, gone, bare, has}

-- a slot with this status is listed
abbrev pub is_listed : Status → Bool
is_listed listed = true
is_listed (leaving a b) = true
is_listed (past ns) = true
is_listed st = false

-- a slot with this status is under removal
abbrev pub is_going : Status → Bool
is_going (leaving a b) = true
is_going (past ns) = true
is_going (gone a b) = true
is_going bare = true
is_going st = false

-- a slot with this status is free, or was given a path and isn't listed yet, or is past the second grace period and
-- empty
abbrev pub is_quiet : Status → Bool
is_quiet unused = true
is_quiet fresh = true
is_quiet bare = true
is_quiet st = false

-- the first of two for side 0, and the second for any other
abbrev pub pick : ℕ → Bool → Bool → Bool
pick zero a b = a
pick (suc x) a b = b

-- no open section on this side has an enabled row of a slot with this status: it isn't listed and not under removal,
-- or a scan of the side was kept since its mark
abbrev pub is_barred : ℕ → Status → Bool
is_barred x listed = false
is_barred x (leaving a b) = pick x a b
is_barred x st = true

-- no open section on this side has a list of paths with a slot of this status: it isn't listed, and where it is under
-- removal a scan of the side was kept since it left the list
abbrev pub is_hidden : ℕ → Status → Bool
is_hidden x listed = false
is_hidden x (leaving a b) = false
is_hidden x (past ns) = false
is_hidden x (gone a b) = pick x a b
is_hidden x st = true

-- the current word of this node doesn't name a slot with this status: it isn't listed, or it was cleared there past
-- the first grace period
abbrev pub is_unnamed : ℕ → Status → Bool
is_unnamed n listed = false
is_unnamed n (leaving a b) = false
is_unnamed n (past ns) = has n ns
is_unnamed n st = true

-- the greatest version of a mark of the slot
abbrev pub marks : ℕ → List Event → ℕ
marks s [] = 0
marks s (Marks x m ∷ es) = cond (x == s) (max m (marks s es)) (marks s es)
marks s (e ∷ es) = marks s es

-- the greatest version of a list of paths that was stored
abbrev pub orders : List Event → ℕ
orders [] = 0
orders (Orders o ∷ es) = max o.order.version (orders es)
orders (e ∷ es) = orders es

-- the greatest number of entries of a kept scan of this side
abbrev pub scans : ℕ → List Event → ℕ
scans x [] = 0
scans x (Scans y e o ∷ es) = cond (y == x) (max e (scans x es)) (scans x es)
scans x (e ∷ es) = scans x es

-- the greatest version of a mark of the slot that stands before a kept scan of this side which the ticket is past
abbrev pub mark_floor : ℕ → ℕ → ℕ → List Event → ℕ
mark_floor s x t [] = 0
mark_floor s x t (Scans y e o ∷ es) = cond (y == x) (cond (leb e t) (marks s es) (mark_floor s x t es)) (mark_floor s x t es)
mark_floor s x t (e ∷ es) = mark_floor s x t es

-- the greatest version of a list of paths that stands before a kept scan of this side which the ticket is past
abbrev pub order_floor : ℕ → ℕ → List Event → ℕ
order_floor x t [] = 0
order_floor x t (Scans y e o ∷ es) = cond (y == x) (cond (leb e t) (orders es) (order_floor x t es)) (order_floor x t es)
order_floor x t (e ∷ es) = order_floor x t es

-- the version lies from a mark of the slot to its free, or from the start to its free where the slot was under
-- removal there
abbrev pub span : Bool → ℕ → ℕ → List Event → Bool
span g s n [] = g
span g s n (Marks x m ∷ es) = cond (x == s) (cond (leb m n) true (span g s n es)) (span g s n es)
span g s n (Frees x m ∷ es) = cond (x == s) (cond (leb m n) false (span g s n es)) (span g s n es)
span g s n (e ∷ es) = span g s n es

-- the greatest version with which the slot was given a path: the first version of its present path
abbrev pub given : ℕ → List Event → ℕ
given s [] = 0
given s (Gives x m ∷ es) = cond (x == s) (max m (given s es)) (given s es)
given s (e ∷ es) = given s es
