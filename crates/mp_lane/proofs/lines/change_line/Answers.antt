use Rattle.mp_desk.specs.Calls.{change}
use Rattle.mp_desk.specs.Desks.{desk_of, stand}
use Rattle.mp_lane.specs.Lines.{means_of, reads_of}
use Rattle.mp_lane.proofs.OneCall.{one_silent}
use Rattle.mp_lane.proofs.lines.change_line.Goals as goal

pub returns-clause-runs : goal.returns-clause-runs
returns-clause-runs g c world answers k =
    one_silent c.change.result (means_of (reads_of world answers) c.args.line) (change c.args.ctrl c.args.op.now) (stand (g.S.Steps.core c.args.steps.now) (desk_of c.args.desk.now) k) (stand (g.S.Steps.core c.change.new.steps) (desk_of c.change.new.self) k)
    (c.change.ensures.does world.topology.near answers k) (c.change.ensures.breaks world.topology.near answers k)
