use Rattle.mp_plain.specs.Told.{told_core}
use Rattle.mp_laps.proofs.Keeping.{submit_sends}
use Rattle.mp_laps.proofs.keeper_tests.send.Goals as goal

pub returns : goal.returns
returns c =
    submit_sends c.one_node.result c.args.keeper.now (told_core c.args.plain.now) (told_core c.submit.new.steps) c.args.request.now c.submit.new.request c.submit.result c.submit.ensures.0
    (λ v w. c.a_keeper_still_stands.ensures c.args.keeper.now v w)
    c.requires.stands c.requires.closed c.submit.ensures.1
