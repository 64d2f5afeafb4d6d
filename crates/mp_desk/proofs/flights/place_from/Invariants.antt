use Rattle.std.proofs.Common.{◌≡◌, [], take}
use Rattle.mp_desk.specs.Indexed.{flying, flying_of}
use Rattle.mp_desk.proofs.flights.place_from.Given as goal

abbrev pub invariant-loop-place : goal.invariant-loop-place
invariant-loop-place l = flying_of l.named (flying (take l.place l.sent)) ≡ []
