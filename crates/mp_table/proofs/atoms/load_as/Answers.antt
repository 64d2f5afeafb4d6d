use Rattle.std.proofs.Common.{rules}
use Rattle.mp_table.proofs.Table.{allows}
use Rattle.mp_table.proofs.atoms.load_as.Goals as goal

pub load-requires : goal.load-requires
load-requires g c = (search rules, search rules, allows _ _ _ _ _ (λ n. n) g.M.Move.tells c.requires.rule)
