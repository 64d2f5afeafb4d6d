use Rattle.mp_desk.specs.Calls.{reap}
use Rattle.mp_desk.specs.Desks.{desk_of, stand}
use Rattle.mp_lane.specs.Lines.{means_of, reads_of}
use Rattle.mp_lane.proofs.OneCall.{one_silent}
use Rattle.mp_lane.proofs.keeper_lines.reap_line.Goals as goal

pub returns-clause-runs : goal.returns-clause-runs
returns-clause-runs g c world answers =
    one_silent c.reap.result (means_of (reads_of world answers) c.args.line) reap (stand (g.S.Steps.core c.args.steps.now) (desk_of c.args.desk.now) c.args.keeper.now) (stand (g.S.Steps.core c.reap.new.steps) (desk_of c.reap.new.self) c.reap.new.keeper)
    (c.reap.ensures.does world.topology.near answers) (c.reap.ensures.breaks world.topology.near answers)
