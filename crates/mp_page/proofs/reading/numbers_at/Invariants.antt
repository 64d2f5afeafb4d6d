use Rattle.std.proofs.Common.{◌≡◌, ◌*◌, ◌-◌, ◌++◌, ◌+◌}
use Rattle.mp_page.specs.Page.{numbers}
use Rattle.mp_page.proofs.reading.numbers_at.Given as goal

abbrev pub invariant-loop-i : goal.invariant-loop-i
invariant-loop-i l = l.found.items ++ numbers (l.count - l.i) (l.place + 4 * l.i) l.bytes ≡ numbers l.count l.place l.bytes
