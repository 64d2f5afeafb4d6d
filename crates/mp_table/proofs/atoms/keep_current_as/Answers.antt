use Rattle.std.proofs.Common.{rules}
use Rattle.mp_table.proofs.Table.{allows}
use Rattle.mp_table.proofs.atoms.keep_current_as.Goals as goal

pub store-requires : goal.store-requires
store-requires g c = (search rules, search rules, allows _ _ _ _ _ (λ _. c.args.new) (λ _. g.M.Move.tells c.args.new) c.requires.rule)
