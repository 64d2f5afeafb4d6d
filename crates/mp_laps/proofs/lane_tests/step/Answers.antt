use Rattle.mp_lane.specs.Lines.{reads_of}
use Rattle.std.proofs.Common.{sym, subst}
use Rattle.mp_lane.specs.Steps.{IsToStep}
use Rattle.mp_plain.specs.Told.{told_core}
use Rattle.mp_laps.proofs.Laning.{goes_on}
use Rattle.mp_laps.proofs.lane_tests.step.Goals as goal

pub returns-in-Line : goal.returns-in-Line
returns-in-Line c =
    goes_on c.step.result (reads_of c.args.world.now c.args.answers.now) c.args.lane.now c.step.new.self (told_core c.args.plain.now) (told_core c.step.new.steps) c.wants.result c.requires.ready c.wants.ensures
    (subst IsToStep (sym c.in-Line.is) tt) c.step.ensures.does c.step.ensures.leaves

pub returns-in-End : goal.returns-in-End
returns-in-End c =
    goes_on c.step-in-End.result (reads_of c.args.world.now c.args.answers.now) c.args.lane.now c.step-in-End.new.self (told_core c.args.plain.now) (told_core c.step-in-End.new.steps) c.wants.result c.requires.ready c.wants.ensures
    (subst IsToStep (sym c.in-End.is) tt) c.step-in-End.ensures.does c.step-in-End.ensures.leaves
