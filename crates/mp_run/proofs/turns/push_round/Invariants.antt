use Rattle.std.proofs.Common.{◌≡◌, ◌++◌, map, take}
use Rattle.mp_legal.specs.Turns as plain
use Rattle.mp_run.specs.LaneTurns.{turn_of}
use Rattle.mp_run.proofs.turns.push_round.Given as goal

abbrev pub invariant-loop-lane : goal.invariant-loop-lane
invariant-loop-lane l = map turn_of l.turns.items ≡ map turn_of l.fn.turns.items ++ plain.round_of (take l.lane l.plans) l.round
