use Rattle.mp_plain.specs.Told.{told_core}
use Rattle.mp_laps.specs.Lanes.{IsReady}
use Rattle.mp_laps.proofs.lane_tests.run.Given as goal

-- the lane is ready for its next step
abbrev pub invariant-loop : goal.invariant-loop
invariant-loop l = IsReady l.lane (told_core l.plain)
