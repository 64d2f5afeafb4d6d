use Rattle.mp_desk.specs.Calls.{set_policy}
use Rattle.mp_desk.specs.Desks.{desk_of, stand}
use Rattle.mp_lane.specs.Lines.{means_of, reads_of}
use Rattle.mp_lane.proofs.OneCall.{one_silent}
use Rattle.mp_lane.proofs.keeper_lines.policy_line.Goals as goal

pub returns-clause-runs : goal.returns-clause-runs
returns-clause-runs g c world answers =
    one_silent c.set_policy.result (means_of (reads_of world answers) c.args.line) (set_policy c.args.policy) (stand (g.S.Steps.core c.args.steps.now) (desk_of c.args.desk.now) c.args.keeper.now) (stand (g.S.Steps.core c.set_policy.new.steps) (desk_of c.set_policy.new.self) c.set_policy.new.keeper)
    (c.set_policy.ensures.does world.topology.near answers) (c.set_policy.ensures.breaks world.topology.near answers)
