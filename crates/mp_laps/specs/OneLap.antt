-- What a submit and a finish do to told words.
use Rattle.std.specs.Prelude.{◌≡◌, ℕ, ◌+◌, ◌*◌, ◌≤◌, None, Some}
use Rattle.mp_words.specs.declared.near.Near.{Near}
use Rattle.mp_words.specs.declared.path.Path.{Path}
use Rattle.mp_core.specs.Core.{Core, Tells}
use Rattle.mp_core.specs.Memory.{Memory, landed_in}
use Rattle.mp_submit.specs.Choice.{told_choice}
use Rattle.mp_submit.specs.Submits.{submitted_in}
use Rattle.mp_laps.specs.declared.lap.LapEnd.{LapEnd}
use Rattle.mp_laps.specs.declared.lap.LapEnd.TheVariants as lap

-- On told words: a request that is done went to the policy's choice, whose depth is as before; one that is kept had no
-- choice; no row has moved.
abbrev pub LapAt : Near → ℕ → Core → LapEnd → Memory → Type 0
LapAt near node b (lap.Done status) m = (p : Path) × (told_choice near node m ≡ Some p) × (b.told ≡ Some (landed_in p.slot (submitted_in near node m)))
LapAt near node b lap.Kept m = (told_choice near node m ≡ None) × (b.told ≡ Some (submitted_in near node m))
LapAt near node b lap.Back m = Unit {0}
LapAt near node b lap.Moved m = ⊥

-- A lap: no section is open after it, it took at most two units, and on told words its end is so.
pub record OneLap (near : Near) (node : ℕ) (a b : Core) (end : LapEnd) : Type 0 where
  pub closed : b.view.inside ≡ None
  pub left : a.view.left ≤ b.view.left + 2
  pub told : Tells a (λ m. LapAt near node b end m)

-- So many laps are over: no section is open, each took at most two units, and not more are done.
pub record Lapped (laps : ℕ) (a b : Core) (done : ℕ) : Type 0 where
  pub closed : b.view.inside ≡ None
  pub left : a.view.left ≤ b.view.left + 2 * laps
  pub most : done ≤ laps
