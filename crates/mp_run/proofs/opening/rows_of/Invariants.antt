use Rattle.std.proofs.Common.{◌≡◌, map, take}
use Rattle.std.specs.Prelude.{slice_get}
use Rattle.mp_legal.specs.Opening as plain
use Rattle.mp_legal.specs.Inputs.{inputs_of}
use Rattle.mp_run.proofs.opening.rows_of.Given as goal

abbrev pub invariant-loop-ctrl : goal.invariant-loop-ctrl
invariant-loop-ctrl l = l.rows.items ≡ map (λ ctrl. plain.opening_row (inputs_of l.world) ctrl (slice_get l.world.topology.controllers ctrl)) (take l.ctrl-index l.opening)
