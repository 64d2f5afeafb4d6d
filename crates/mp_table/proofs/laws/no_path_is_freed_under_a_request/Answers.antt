use Rattle.mp_rule.proofs.Laws.{not_freed}
use Rattle.mp_table.specs.Words.{said}
use Rattle.mp_table.proofs.laws.no_path_is_freed_under_a_request.Goals as goal

pub returns : goal.returns
returns c may start words views id h at i v f there has on = not_freed start id c.args.on.now.pass.token.seat.me.0 c.args.slot c.args.on.now.pass.keeps (said words) views h.rule at i v f there has on may
