use Rattle.mp_laps.proofs.Tabling.{submit_goes}
use Rattle.mp_laps.proofs.table_tests.send.Goals as goal

pub returns : goal.returns
returns g c = submit_goes c.two_nodes.result (g.S.Steps.core c.args.steps.now) (g.S.Steps.core c.submit.new.steps) c.args.request.now c.submit.new.request c.submit.result c.submit.ensures.0 c.submit.ensures.1
