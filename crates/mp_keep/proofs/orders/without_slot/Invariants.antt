use Rattle.std.proofs.Common.{◌≡◌, ◌≤◌, ◌==◌, ◌++◌, not, length, filter, take, replicate}
use Rattle.mp_keep.proofs.orders.without_slot.Given as goal

abbrev pub invariant-loop-place : goal.invariant-loop-place
invariant-loop-place l =
    (l.len ≡ length (filter (λ s. not (s == l.slot)) (take l.place l.order.slots))) × (l.len ≤ l.place)
    × (l.slots ≡ take 8 (filter (λ s. not (s == l.slot)) (take l.place l.order.slots) ++ replicate 8 0))
