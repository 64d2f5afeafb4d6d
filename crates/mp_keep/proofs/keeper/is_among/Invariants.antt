use Rattle.std.proofs.Common.{◌≡◌, ◌==◌, ℕ, ◌<◌, false, get_or}
use Rattle.mp_keep.specs.Keeper.{no_removal}
use Rattle.mp_keep.proofs.keeper.is_among.Given as goal

abbrev pub invariant-loop-place : goal.invariant-loop-place
invariant-loop-place l = (k : ℕ) → k < l.place → ((get_or l.removals k no_removal).slot == l.slot) ≡ false
