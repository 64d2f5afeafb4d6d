use Rattle.std.proofs.Common.{◌≤◌, length}
use Rattle.mp_script.proofs.Steps.{IsAt}
use Rattle.mp_script.proofs.progress.read_lines.Given as goal

abbrev pub invariant-loop-rest : goal.invariant-loop-rest
invariant-loop-rest l = record {
  at : IsAt l.setting.topology.now l.setting.pages l.bytes l.rest l.progress;
  few : l.progress.number ≤ 65536;
  begun : l.progress.earlier.lanes ≤ 16;
}

abbrev pub decreases-loop-rest : goal.decreases-loop-rest
decreases-loop-rest l = length l.rest
