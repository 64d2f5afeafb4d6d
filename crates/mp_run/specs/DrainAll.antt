-- The drain against the plain run.
use Rattle.std.specs.Prelude.{[], ◌≡◌, ◌<◌, ◌++◌, ℕ, Bool, length, count_by, Some, None, Result, Ok, Err}
use Rattle.std.specs.List.{AllByRecursion}
use Rattle.mp_words.specs.declared.entry.RowEntry.{RowEntry}
use Rattle.mp_desk.specs.declared.halt.Halt.{Halt}
use Rattle.mp_desk.specs.declared.halt.Halt.TheVariants as halt
use Rattle.mp_desk.specs.Desks.{desk_of}
use Rattle.mp_legal.specs.ToldDesks.{AreInRun, IsInRun, told_events}
use Rattle.mp_legal.specs.ToldKeeper.{orders_in}
use Rattle.mp_legal.specs.Units.{Paid}
use Rattle.mp_run.specs.declared.runner.Runner.{Runner}
use Rattle.mp_run.specs.Runner.{lane_at, made_by, state_by, total, Story}

-- The drain did what was paid for: what it makes and tells was added to what was there, and each request is where it
-- was, or in the list or at the drain's desk. Nothing flies there, and nothing is to be listed.
pub record Drained (p : Paid) (a b : Runner) (s t : Story) : Type 0 where
  pub state : state_by b t ≡ p.step.state
  pub rows : t.rows ≡ s.rows ++ p.step.rows
  pub made : (of : RowEntry → Bool) → count_by of t.rows ≡ made_by of b.lanes.items (desk_of b.drain)
  pub orders : orders_in b.keeper.entries ≡ orders_in a.keeper.entries ++ p.step.orders
  pub told : told_events b.drain.notes.events ≡ told_events a.drain.notes.events ++ p.step.events
  pub lanes : b.lanes.items ≡ a.lanes.items
  pub elsewhere : (n : ℕ) → n < length b.lanes.items → AreInRun t.beside (lane_at n b).desk
  pub desk : AreInRun t.beside (desk_of b.drain)
  pub listed : AllByRecursion (IsInRun t.beside) b.list
  pub quiet : b.drain.flights.flying ≡ []
  pub out : b.drain.out.items ≡ []
  pub all : (req : ℕ) → total req b.lanes.items b.list (desk_of b.drain) ≡ total req a.lanes.items a.list (desk_of a.drain)

-- What the drain did, by the answer: all of it, or its units weren't enough. Want of memory is free.
abbrev pub Drains : {T : Type 0} → Result T Halt → Paid → Runner → Runner → Story → Type 0
Drains (Ok x) p a b s = (left : ℕ) × (p.left ≡ Some left) × ((t : Story) × Drained p a b s t)
Drains (Err halt.Spent) p a b s = p.left ≡ None
Drains (Err halt.NoMemory) p a b s = Unit {0}
