-- How the keeper's data stand to the plain state, and what the keeper's calls do to a run, where the words are told.
use Rattle.std.specs.Prelude.{◌≡◌, ℕ, ◌+◌, ◌-◌, Bool, true, false, List, [], ◌∷◌, ◌++◌, map, length, nat_lt}
use Rattle.std.specs.List.{list_all}
use Rattle.mp_words.specs.declared.entry.RowEntry.{RowEntry}
use Rattle.mp_words.specs.declared.entry.OrderEntry.{OrderEntry}
use Rattle.mp_words.specs.declared.entry.KeepEntry.{KeepEntry}
use Rattle.mp_words.specs.declared.entry.KeepEntry.TheVariants as keep
use Rattle.mp_words.specs.Order.{slots_of}
use Rattle.mp_record.specs.declared.event.Event.{Event}
use Rattle.mp_core.specs.Core.{Core}
use Rattle.mp_core.specs.Memory.{Memory, side_at}
use Rattle.mp_keep.specs.declared.stage.Stage.{Stage}
use Rattle.mp_keep.specs.declared.stage.Stage.TheVariants.{Marked, HalfA, Unlisted, HalfB, Past}
use Rattle.mp_keep.specs.Keeper.{KeeperView, owner_of}
use Rattle.mp_legal.specs.PlainState.{State}
use Rattle.mp_legal.specs.Stepped.{Stepped}
use Rattle.mp_legal.specs.ToldState.{Beside, state_in, IsAt}
pub use Rattle.mp_desk.specs.Says.{entry_added, added_said, entry_marked, marked_said, reaped_said}

-- a removal in this stage has begun no grace period, or both are over
abbrev pub is_at_rest : Stage → Bool
is_at_rest Marked = true
is_at_rest HalfA = false
is_at_rest Unlisted = false
is_at_rest HalfB = false
is_at_rest Past = true

-- The keeper's data agree with a plain state: they have its list of paths, which lists slots alone, the controllers of
-- its rows, its removals in order, of which none is in the midst of its grace periods, and its flips.
pub record KeepsAt (k : KeeperView) (s : State) : Type 0 where
  pub order : s.order ≡ k.order
  pub within : list_all (λ slot. nat_lt slot 15) (slots_of k.order) ≡ true
  pub owners : k.owners ≡ map owner_of s.rows
  pub removals : s.removals ≡ map (λ r. r.slot) k.removals
  pub rest : list_all (λ r. is_at_rest r.stage) k.removals ≡ true
  pub flips : s.flips ≡ k.flips

-- Nobody is inside a side of these words.
abbrev pub NobodyInside : Memory → Type 0
NobodyInside m = (side : ℕ) → (side_at m side).inside ≡ 0

-- what a run has beside the words, with the keeper's removals and flips
abbrev pub with_keeper : KeeperView → Beside → Beside
with_keeper k x = record x { removals = map (λ r. r.slot) k.removals; flips = k.flips }

-- the lists of paths among what a keeper made
abbrev pub orders_in : List KeepEntry → List OrderEntry
orders_in [] = []
orders_in (keep.Order e ∷ entries) = e ∷ orders_in entries
orders_in (keep.Closing c ∷ entries) = orders_in entries

-- A call of the keeper's is a plain step: the pass stands behind it where the step leads, with the keeper's removals
-- and flips, the keeper's data agree with that state, the keeper made the step's lists of paths, each entry has used
-- one unit, and nothing of another lane is changed.
pub record IsKeeperStep
    (step : Stepped) (k l : KeeperView) (a b : Core) (x : Beside) (made : List RowEntry) (told : List Event)
    : Type 0 where
  pub memory : Memory
  pub at : IsAt b memory (with_keeper l x)
  pub keeps : KeepsAt l step.state
  pub state : step.state ≡ state_in memory (with_keeper l x)
  pub rows : step.rows ≡ made
  pub orders : orders_in l.entries ≡ orders_in k.entries ++ step.orders
  pub events : step.events ≡ told
  pub left : b.view.left ≡ a.view.left - (length step.rows + length step.orders)
  pub lane : b.lane ≡ a.lane
  pub home : b.home ≡ a.home
  pub others : b.others ≡ a.others
  pub keeping : b.view.keeping.start ≡ a.view.keeping.start
