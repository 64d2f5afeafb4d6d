use Rattle.std.proofs.Common.{◌≡◌, ℕ, ◌<◌, false, get_or}
use Rattle.mp_words.specs.declared.path.Path.{Path}
use Rattle.mp_words.specs.PathTable.{paths_of, has_slot}
use Rattle.mp_policy.proofs.listed.position.Given as goal

abbrev pub invariant-loop-place : goal.invariant-loop-place
invariant-loop-place l = (j : ℕ) (d : Path) → j < l.place → has_slot l.slot (get_or (paths_of l.reading) j d) ≡ false
