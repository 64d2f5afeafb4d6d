use Rattle.std.proofs.Common.{◌≡◌, None, take}
use Rattle.mp_checks.specs.Checks.{first_fault, each_from}
use Rattle.mp_topology.specs.Opening.{paged_checks}
use Rattle.mp_topology.proofs.opening.check_pages.Given as goal

abbrev pub invariant-loop-place : goal.invariant-loop-place
invariant-loop-place l = first_fault (each_from (λ j place. paged_checks l.controllers place) 0 (take l.place-index l.opening)) ≡ None
