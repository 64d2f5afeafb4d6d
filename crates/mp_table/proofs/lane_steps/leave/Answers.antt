use Rattle.std.proofs.Common.{arith}
use Rattle.mp_table.specs.Passes.{table_of}
use Rattle.mp_table.proofs.LaneKinds.{side_leaves}
use Rattle.mp_table.proofs.lane_steps.leave.Goals as goal

pub sub_as-requires-clause-word : goal.sub_as-requires-clause-word
sub_as-requires-clause-word c = let s = (c.args.token.now.fits.formed c.args.section c.requires.open).side in omega arith

pub sub_as-requires-clause-rule : goal.sub_as-requires-clause-rule
sub_as-requires-clause-rule c = side_leaves (table_of c.args.shared.now) c.args.lane c.args.token.now.seat.id c.args.token.now.seat.me.0 c.args.token.now.fits c.args.section c.requires.open (c.args.token.now.fits.formed c.args.section c.requires.open).side
