use Rattle.mp_lane.specs.Steps.{HasNoKeeperLine}
use Rattle.mp_laps.proofs.lane_tests.wide_lines.Given as goal

-- none of the lines so far is the keeper's
abbrev pub invariant-loop-number : goal.invariant-loop-number
invariant-loop-number l = HasNoKeeperLine l.lines.items
