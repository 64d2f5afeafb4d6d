use Rattle.mp_table.specs.Passes.{table_of}
use Rattle.mp_table.proofs.LaneKinds.{side_enters}
use Rattle.mp_table.proofs.lane_steps.enter.Goals as goal

pub add_as-found-requires-clause-rule : goal.add_as-found-requires-clause-rule
add_as-found-requires-clause-rule c = side_enters (table_of c.args.shared.now) c.args.lane c.args.token.now.seat.id c.args.token.now.seat.me.0 c.args.token.now.fits c.args.side c.requires.side c.requires.left c.requires.closed
