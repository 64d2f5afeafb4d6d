use Rattle.std.proofs.Common.{◌≡◌, ◌++◌, take}
use Rattle.std.specs.List.{flat_map, enumerate_from}
use Rattle.mp_record.specs.NotedText.{noted_lane}
use Rattle.mp_record.proofs.lane_text.put_lanes.Given as goal

-- the lines so far stand in the text
abbrev pub invariant-loop-lane : goal.invariant-loop-lane
invariant-loop-lane l = l.text.items ≡ l.initial.text.items ++ flat_map (noted_lane l.notes l.keeper) (enumerate_from 0 (take l.lane l.lanes))
