use Rattle.std.proofs.Common.{◌≡◌, None, take}
use Rattle.mp_checks.specs.Checks.{first_fault, each_from}
use Rattle.mp_topology.specs.Fits.{box_checks}
use Rattle.mp_topology.proofs.fits.check_boxes.Given as goal

abbrev pub invariant-loop-i : goal.invariant-loop-i
invariant-loop-i l = first_fault (each_from (box_checks l.boxes) 0 (take l.i l.controllers)) ≡ None
