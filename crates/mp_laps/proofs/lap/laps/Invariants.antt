use Rattle.mp_laps.specs.OneLap.{Lapped}
use Rattle.mp_laps.proofs.lap.laps.Given as goal

-- so many laps are over
abbrev pub invariant-loop-lap : goal.invariant-loop-lap
invariant-loop-lap g l = Lapped l.lap (g.S.Steps.core l.fn.steps) (g.S.Steps.core l.steps) l.done
