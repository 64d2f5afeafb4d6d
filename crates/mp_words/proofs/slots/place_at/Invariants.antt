use Rattle.std.proofs.Common.{◌≡◌, ℕ, ◌<◌, ◌==◌, false, length, get_or}
use Rattle.mp_words.proofs.slots.place_at.Given as goal

-- it wasn't met so far
abbrev pub invariant-loop-place : goal.invariant-loop-place
invariant-loop-place l = ((j : ℕ) → j < l.place → (get_or l.slots j 0 == l.slot) ≡ false) × (length l.slots ≡ 8)
