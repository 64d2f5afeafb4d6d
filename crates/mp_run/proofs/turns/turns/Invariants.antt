use Rattle.std.proofs.Common.{◌≡◌, map}
use Rattle.std.specs.List.{flat_map, range_with_len}
use Rattle.mp_legal.specs.Turns as plain
use Rattle.mp_run.specs.LaneTurns.{turn_of}
use Rattle.mp_run.proofs.turns.turns.Given as goal

abbrev pub invariant-loop-round : goal.invariant-loop-round
invariant-loop-round l = map turn_of l.turns.items ≡ flat_map (plain.round_of l.plans) (range_with_len 0 l.round)
