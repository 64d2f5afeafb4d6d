use Rattle.std.proofs.Common.{take}
use Rattle.mp_script.specs.Places.{HasPlaces}
use Rattle.mp_script.proofs.places.places_of.Given as goal

abbrev pub invariant-loop-i : goal.invariant-loop-i
invariant-loop-i l = HasPlaces (take l.i l.controllers) l.places
