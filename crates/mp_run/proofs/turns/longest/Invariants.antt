use Rattle.std.proofs.Common.{◌≡◌, take}
use Rattle.mp_legal.specs.Turns as plain
use Rattle.mp_run.proofs.turns.longest.Given as goal

abbrev pub invariant-loop-plan : goal.invariant-loop-plan
invariant-loop-plan l = l.longest ≡ plain.longest (take l.plan-index l.plans)
