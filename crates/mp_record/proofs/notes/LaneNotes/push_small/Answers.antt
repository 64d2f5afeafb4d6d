use Rattle.std.proofs.Common.{◌≡◌, ◌++◌, ◌∷◌, [], vec_len, sym, ap, subst, ◌∙◌, arith}
use Rattle.mp_record.specs.Kept.{told, AreBelow, AreInOrder}
use Rattle.mp_record.proofs.Apart.{below-push, below-any, told-small, order-push, order-any}
use Rattle.mp_record.proofs.notes.LaneNotes.push_small.Goals as goal

pub invariant_of-self : goal.invariant_of-self
invariant_of-self c =
    let n = vec_len c.self.inside.apart in
    let apart = c.self.inside.apart.items in
    let room : c.self.inside.room ≡ c.args.self.now.spare = ap (λ v. v.spare) c.self.view_is in
    let a = below-push n c.self.inside.kept.items c.args.kept c.self.invariant.0 (below-any n c.args.kept c.requires.small) in
    let p = c.push_reserved.ensures in (
      subst (AreBelow n) (sym p.items) a,
      subst (AreInOrder apart 0) (sym p.items) (order-push apart 0 c.self.inside.kept.items c.args.kept c.self.invariant.1 (order-any apart c.args.kept c.requires.small)),
      omega (arith, room, c.requires.room, p.len, p.capacity, c.self.invariant.2),
      omega (arith, room, c.requires.room, c.self.invariant.3),
      omega (arith, room, c.requires.room, c.self.invariant.4),
    )

pub returns-clause-events : goal.returns-clause-events
returns-clause-events c =
    rw (c.push_reserved.ensures.items) (told-small c.self.inside.apart.items c.args.kept c.self.inside.kept.items c.requires.small ∙ ap (λ v. v.events ++ told [] c.args.kept ∷ []) c.self.view_is)
