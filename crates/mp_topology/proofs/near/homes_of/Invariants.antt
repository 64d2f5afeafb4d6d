use Rattle.std.proofs.Common.{◌≡◌, take}
use Rattle.mp_topology.specs.Near.{homes_of}
use Rattle.mp_topology.proofs.near.homes_of.Given as goal

abbrev pub invariant-loop-i : goal.invariant-loop-i
invariant-loop-i l = l.homes ≡ homes_of (take l.i l.controllers)
