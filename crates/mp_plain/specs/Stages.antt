-- How far a removal by hand is, in a worked case.
use Rattle.std.specs.Prelude.{◌≡◌, ℕ, ◌==◌, ◌≤◌, false, [], ◌∷◌, cond, if◌then◌else◌}
use Rattle.mp_words.specs.declared.order.Order.{Order}
use Rattle.mp_words.specs.declared.row.Policy.TheVariants.{Numa}
use Rattle.mp_words.specs.Order.{order_of}
use Rattle.mp_core.specs.declared.view.Role.TheVariants as role
use Rattle.mp_core.specs.declared.view.View.{View}
use Rattle.mp_core.specs.Kinds.{status_at}
use Rattle.mp_core.specs.Status.{Status, unused, listed, leaving, scanned, cleared, emptied}
use Rattle.mp_core.specs.Views.{last_version}

-- The lane steps the keeper's part and has so many units, each slot is so far, and the last list of paths has this
-- version.
pub record Stage (v : View) (units : ℕ) (st : ℕ → Status) (order : ℕ) : Type 0 where
  pub keeper : v.role ≡ role.Keeper
  pub left : units ≤ v.left
  pub status : (s : ℕ) → status_at s v ≡ st s
  pub last : last_version v ≡ order

-- slots 0 and 1 are listed, and no other has a path
abbrev pub two_listed : ℕ → Status
two_listed s = if s == 0 then listed else (if s == 1 then listed else unused)

-- the second version of the list of paths: slot 1 alone
abbrev pub one_path : Order
one_path = order_of 1 Numa (1 ∷ [])

-- each slot after the mark of one
abbrev pub marked_at : ℕ → (ℕ → Status) → ℕ → Status
marked_at slot st s = cond (slot == s) (leaving false false) (st s)

-- each slot after a look at both sides found nobody inside
abbrev pub closed_at : (ℕ → Status) → ℕ → Status
closed_at st s = scanned 1 (scanned 0 (st s))

-- each slot after a node's current word was cleared of one
abbrev pub cleared_at : ℕ → ℕ → (ℕ → Status) → ℕ → Status
cleared_at slot node st s = cond (slot == s) (cleared node (st s)) (st s)

-- each slot after the current words of all nodes were cleared of one
abbrev pub all_cleared : ℕ → (ℕ → Status) → ℕ → Status
all_cleared slot st =
    cleared_at slot 7 (cleared_at slot 6 (cleared_at slot 5 (cleared_at slot 4 (cleared_at slot 3 (cleared_at slot 2 (cleared_at slot 1 (cleared_at slot 0 st)))))))

-- each slot after one was found empty
abbrev pub emptied_at : ℕ → (ℕ → Status) → ℕ → Status
emptied_at slot st s = cond (slot == s) (emptied (st s)) (st s)
