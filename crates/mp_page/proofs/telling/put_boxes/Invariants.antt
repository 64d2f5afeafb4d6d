use Rattle.std.proofs.Common.{◌≡◌, ◌++◌, drop, map}
use Rattle.mp_page.specs.Text.{lines_from}
use Rattle.mp_page.proofs.telling.put_boxes.Given as goal

abbrev pub invariant-loop-number : goal.invariant-loop-number
invariant-loop-number l = l.text.items ++ lines_from l.anagrpmax l.number (map (λ v. v.items) (drop l.number l.boxes)) ≡ l.initial.text.items ++ lines_from l.anagrpmax 0 (map (λ v. v.items) l.boxes)
