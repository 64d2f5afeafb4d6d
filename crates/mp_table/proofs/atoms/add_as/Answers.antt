use Rattle.std.proofs.Common.{rules, ◌+◌, ◌%◌, ◌^◌}
use Rattle.mp_table.proofs.Table.{allows}
use Rattle.mp_table.proofs.atoms.add_as.Goals as goal

pub fetch_add-requires : goal.fetch_add-requires
fetch_add-requires g c = (search rules, search rules, allows _ _ _ _ _ (λ n. (n + c.args.more) % 2 ^ 64) g.M.Move.tells c.requires.rule)
