use Rattle.std.proofs.Common.{rules, ◌+◌, ◌-◌, ◌%◌, ◌^◌}
use Rattle.mp_table.proofs.Table.{allows}
use Rattle.mp_table.proofs.atoms.land_as.Goals as goal

pub fetch_sub-requires : goal.fetch_sub-requires
fetch_sub-requires g c = (search rules, search rules, allows _ _ _ _ _ (λ n. (n + (2 ^ 64 - c.args.less)) % 2 ^ 64) g.M.Move.tells c.requires.rule)
