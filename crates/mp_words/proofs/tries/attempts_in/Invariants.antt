use Rattle.std.proofs.Common.{◌≡◌, ◌≤◌, ◌*◌, take, map}
use Rattle.mp_words.specs.Request.{attempts_of, tried_of}
use Rattle.mp_words.proofs.tries.attempts_in.Given as goal

abbrev pub invariant-loop-made : goal.invariant-loop-made
invariant-loop-made l = (l.attempts ≡ attempts_of (map tried_of (take l.made-index l.tries))) × (l.attempts ≤ 6 * l.made-index)
