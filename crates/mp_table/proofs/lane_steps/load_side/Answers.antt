use Rattle.mp_table.specs.Passes.{table_of}
use Rattle.mp_table.proofs.LaneKinds.{side_loads}
use Rattle.mp_table.proofs.lane_steps.load_side.Goals as goal

pub load_as-requires-clause-rule : goal.load_as-requires-clause-rule
load_as-requires-clause-rule c = side_loads (table_of c.args.shared.now) c.args.lane c.args.token.now.seat.id c.args.token.now.seat.me.0 c.args.token.now.fits
