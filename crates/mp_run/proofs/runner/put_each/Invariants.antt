use Rattle.std.proofs.Common.{◌≡◌, ◌++◌}
use Rattle.mp_run.proofs.runner.put_each.Given as goal

abbrev pub invariant-loop-request : goal.invariant-loop-request
invariant-loop-request l = l.list ++ l.request-iterator.rest.items ≡ l.fn.list ++ l.fn.requests.items
