use Rattle.mp_rule.proofs.Laws.{sends_listed}
use Rattle.mp_table.specs.Words.{said}
use Rattle.mp_table.proofs.laws.a_request_goes_to_a_listed_path.Goals as goal

pub returns : goal.returns
returns c start words views id h at = sends_listed start id c.args.on.now.pass.token.seat.me.0 c.args.section.now c.args.slot c.requires.open c.requires.usable (said words) views h.rule at
