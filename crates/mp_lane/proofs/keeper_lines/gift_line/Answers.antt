use Rattle.mp_desk.specs.Calls.{add}
use Rattle.mp_desk.specs.Desks.{desk_of, stand}
use Rattle.mp_lane.specs.Lines.{means_of, reads_of}
use Rattle.mp_lane.proofs.OneCall.{one_silent}
use Rattle.mp_lane.proofs.keeper_lines.gift_line.Goals as goal

pub returns-clause-runs : goal.returns-clause-runs
returns-clause-runs g c world answers =
    one_silent c.add.result (means_of (reads_of world answers) c.args.line) (add c.args.gift) (stand (g.S.Steps.core c.args.steps.now) (desk_of c.args.desk.now) c.args.keeper.now) (stand (g.S.Steps.core c.add.new.steps) (desk_of c.add.new.self) c.add.new.keeper)
    (c.add.ensures.does world.topology.near answers) (c.add.ensures.breaks world.topology.near answers)
