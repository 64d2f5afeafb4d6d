use Rattle.std.proofs.Common.{◌≡◌, ℕ, ◌<◌, false, get_or, None}
use Rattle.mp_keep.specs.Keeps.{is_owner}
use Rattle.mp_keep.proofs.keeper.first_owned.Given as goal

abbrev pub invariant-loop-n : goal.invariant-loop-n
invariant-loop-n l = (k : ℕ) → k < l.n → is_owner l.owner (get_or l.owners k None) ≡ false
