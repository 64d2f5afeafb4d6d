use Rattle.std.proofs.Common.{◌≡◌, ◌≤◌, length, take}
use Rattle.mp_desk.specs.Indexed.{flying, flying_of}
use Rattle.mp_desk.proofs.flights.count_all.Given as goal

abbrev pub invariant-loop-place : goal.invariant-loop-place
invariant-loop-place l = (l.count ≡ length (flying_of l.named (flying (take l.place-index l.sent)))) × (l.count ≤ l.place-index)
