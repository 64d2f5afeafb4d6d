use Rattle.std.proofs.Common.{◌≡◌, ◌-◌, ◌+◌, ◌*◌, ◌≤◌, ◌++◌, length, map, vec_len}
use Rattle.mp_checks.specs.Checks.{first_fault}
use Rattle.mp_page.specs.Boxes.{boxes_checks, boxes_of}
use Rattle.mp_page.proofs.boxes.boxes_at.Given as goal

abbrev pub invariant-loop-rest : goal.invariant-loop-rest
invariant-loop-rest l = record {
  whole : l.offset + length l.rest ≡ length l.bytes;
  low : l.offset ≤ 65540 * vec_len l.boxes;
  few : vec_len l.boxes ≤ l.most;
  fault : first_fault (boxes_checks (l.most - vec_len l.boxes) l.offset l.rest) ≡ first_fault (boxes_checks l.most 0 l.bytes);
  found : map (λ v. v.items) l.boxes.items ++ boxes_of (l.most - vec_len l.boxes) l.rest ≡ boxes_of l.most l.bytes;
}

abbrev pub decreases-loop-rest : goal.decreases-loop-rest
decreases-loop-rest l = length l.rest
