use Rattle.mp_plain.specs.Told.{told_core}
use Rattle.mp_lane.specs.Lines.{reads_of}
use Rattle.mp_run.proofs.LaneSteps.{stands_at, steps_from}
use Rattle.mp_run.proofs.runner.step_lane.Goals as goal

pub step_keeper-requires-clause-stands : goal.step_keeper-requires-clause-stands
step_keeper-requires-clause-stands c = stands_at c.args.lane c.args.plain.now c.turn.new.self c.args.keeper.now c.turn.ensures.core c.requires.stands

pub returns-clause-steps : goal.returns-clause-steps
returns-clause-steps c =
    steps_from c.in-Ok.stepped (reads_of c.args.world.now c.args.answers.now) c.args.lane c.args.plain.now c.args.at.now c.hand_list.new.lane c.step_keeper.new.self c.take_out.new.self c.args.list.now c.hand_list.new.list c.put_all.new.list c.take_out.result.items
    c.args.keeper.now c.step_keeper.new.keeper (told_core c.turn.new.self) (told_core c.step_keeper.new.steps)
    c.hand_list.ensures.lane c.turn.ensures.core (stands_at c.args.lane c.args.plain.now c.turn.new.self c.args.keeper.now c.turn.ensures.core c.requires.stands) c.in-Ok.ensures.does c.hand_list.ensures.list c.take_out.ensures.lane c.take_out.ensures.out c.in_ok-put_all.ensures.put
