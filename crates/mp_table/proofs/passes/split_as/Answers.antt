use Rattle.std.proofs.Common.{rules, ◌≡◌, ◌≤◌, ℕ, subst}
use Rattle.mp_rule.specs.Sums.{times}
use Rattle.mp_table.proofs.Ends.{splits}
use Rattle.mp_table.proofs.passes.split_as.Goals as goal

pub split_seat-requires : goal.split_seat-requires
split_seat-requires g c =
    let v = c.args.seat.now.me.0 in
    (search rules, search rules, splits _ c.args.seat.now.id v g.C.Share.lane g.C.Share.units c.requires.keeper (subst (λ (n : ℕ). n ≤ v.left) c.requires.picked.1 c.requires.left) (subst (λ (l : ℕ). times l v.keeping.out ≡ 0) c.requires.picked.0 c.requires.fresh))
