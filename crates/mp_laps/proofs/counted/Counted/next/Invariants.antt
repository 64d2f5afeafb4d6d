use Rattle.std.proofs.Common.{◌≡◌}
use Rattle.mp_laps.proofs.counted.Counted.next.Given as goal

abbrev pub invariant-loop-kind : goal.invariant-loop-kind
invariant-loop-kind g l = l.self.steps ≡ l.fn.self.steps
