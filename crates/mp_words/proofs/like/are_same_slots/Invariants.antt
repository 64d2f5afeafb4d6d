use Rattle.std.proofs.Common.{◌≡◌, length, take}
use Rattle.mp_words.specs.Like.{Tells}
use Rattle.mp_words.proofs.like.are_same_slots.Given as goal

-- it is told of the places so far
abbrev pub invariant-loop-place : goal.invariant-loop-place
invariant-loop-place l = Tells l.same (take l.place l.a) (take l.place l.b) × (length l.a ≡ 8) × (length l.b ≡ 8)
