use Rattle.mp_table.proofs.Ends.{tells_rule}
use Rattle.mp_table.proofs.passes.tell.Goals as goal

pub load_as-requires-clause-rule : goal.load_as-requires-clause-rule
load_as-requires-clause-rule c = tells_rule c.args.seat.now.id c.args.seat.now.me.0 c.requires.last c.requires.rows
