use Rattle.std.proofs.Common.{◌≡◌, ℕ, vec_len, sym, ap, subst, arith}
use Rattle.mp_record.specs.Kept.{IsBelow, AreBelow, IsInOrder, AreInOrder}
use Rattle.mp_record.proofs.Apart.{below-push, order-push}
use Rattle.mp_record.proofs.notes.LaneNotes.push_section.Goals as goal

pub invariant_of-self : goal.invariant_of-self
invariant_of-self c =
    let n = vec_len c.self.inside.apart in
    let room : c.self.inside.room ≡ c.args.self.now.spare = ap (λ v. v.spare) c.self.view_is in
    let low : IsBelow n c.in-Some.like = subst (λ m. IsBelow m c.in-Some.like) c.as_slice.ensures.len c.in-Some.ensures.below in
    let a = below-push n c.self.inside.kept.items c.in-Some.like c.self.invariant.0 low in
    let order = subst (λ es. (m : ℕ) → IsInOrder es m c.in-Some.like) c.as_slice.ensures.value c.in-Some.ensures.order in
    let o = order-push c.self.inside.apart.items 0 c.self.inside.kept.items c.in-Some.like c.self.invariant.1 order in
    let p = c.push_reserved.ensures in (
      subst (AreBelow n) (sym p.items) a,
      subst (AreInOrder c.self.inside.apart.items 0) (sym p.items) o,
      omega (arith, room, c.requires, p.len, p.capacity, c.self.invariant.2),
      omega (arith, room, c.requires, c.self.invariant.3),
      omega (arith, room, c.requires, c.self.invariant.4),
    )
