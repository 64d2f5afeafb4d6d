use Rattle.std.proofs.Common.{rules, ◌==◌}
use prog.Atomic.{either}
use Rattle.mp_table.proofs.Table.{allows}
use Rattle.mp_table.proofs.atoms.clear_as.Goals as goal

pub compare_exchange-requires : goal.compare_exchange-requires
compare_exchange-requires g c = (search rules, search rules, allows _ _ _ _ _ (λ n. either (n == c.args.old) c.args.new n) g.M.Move.tells c.requires.rule)
