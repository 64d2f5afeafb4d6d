use Rattle.std.proofs.Common.{rules, subst}
use Rattle.mp_core.specs.declared.view.View.{View}
use Rattle.atomic_table.specs.Table.{State, Joins}
use Rattle.mp_core.specs.Views.{joined, spent}
use Rattle.mp_table.specs.Table.{Kept}
use Rattle.mp_table.proofs.Ends.{joins}
use Rattle.mp_table.proofs.passes.join_as.Goals as goal

pub join_seat-requires : goal.join_seat-requires
join_seat-requires g c =
    let v = c.args.seat.now.me.0 in
    let w = c.args.other.me.0 in
    (search rules, search rules, search rules, search rules, subst (λ (u : View). Joins (λ (s : State (Unit {0}) View). Kept c.args.shared.now.table.shared.key s.words s.views) c.args.seat.now.id v c.args.other.id w (joined v w) (spent u)) c.requires.picked (joins c.args.shared.now.table.shared.key c.args.seat.now.id v c.args.other.id w c.requires.keeper c.requires.closed c.requires.landed))
