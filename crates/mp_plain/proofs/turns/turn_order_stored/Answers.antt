use Rattle.std.proofs.Common.{rules, refl}
use Rattle.atomic_table.specs.Table.{keeps}
use Rattle.mp_plain.proofs.turns.turn_order_stored.Goals as goal

pub load-requires : goal.load-requires
load-requires g c = (search rules, search rules, λ s h len at small. (g.N.Next.view, keeps, tt, tt, refl))
