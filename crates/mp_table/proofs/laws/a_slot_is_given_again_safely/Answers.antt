use Rattle.mp_rule.proofs.Laws.{give_is_safe}
use Rattle.mp_table.specs.Words.{said}
use Rattle.mp_table.proofs.laws.a_slot_is_given_again_safely.Goals as goal

pub returns : goal.returns
returns c gift may start words views id h at = give_is_safe start id c.args.on.now.pass.token.seat.me.0 c.args.slot c.args.on.now.pass.keeps may.0 (said words) views h.rule at
