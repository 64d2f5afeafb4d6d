use Rattle.std.proofs.Common.{◌∙◌}
use Rattle.mp_table.specs.Passes.{table_of}
use Rattle.mp_table.proofs.KeeperKinds.{index_flips}
use Rattle.mp_table.proofs.keeper_steps.flip.Goals as goal

pub store_as-requires-clause-rule : goal.store_as-requires-clause-rule
store_as-requires-clause-rule c = index_flips (table_of c.args.shared.now) c.args.lane c.args.token.now.seat.id c.args.token.now.seat.me.0 c.args.token.now.fits c.from.result (c.from.ensures ∙ c.requires.other) c.requires.keeper
