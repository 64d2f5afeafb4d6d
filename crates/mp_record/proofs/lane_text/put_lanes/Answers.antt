use Rattle.std.proofs.Common.{arith, rules, append_assoc}
use Rattle.mp_record.specs.NotedText.{noted_lane}
use Rattle.mp_record.proofs.Noted.{lanes-more}
use Rattle.mp_record.proofs.lane_text.put_lanes.Goals as goal

pub loop-lane-preserved : goal.loop-lane-preserved
loop-lane-preserved c =
    let more = lanes-more (noted_lane c.args.notes c.args.keeper.now) c.args.lanes.now c.loop-lane.lane c.index-lanes-lane.result (omega arith) c.index-lanes-lane.is in
    rw more (search (rules, append_assoc))
