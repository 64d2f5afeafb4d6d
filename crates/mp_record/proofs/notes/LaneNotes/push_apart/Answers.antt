use Rattle.std.proofs.Common.{◌≡◌, ◌+◌, ◌<◌, ◌++◌, ◌∷◌, [], length, vec_len, ap, subst, ◌∙◌, arith}
use Rattle.mp_record.specs.declared.kept.Kept.TheVariants as kept
use Rattle.mp_record.specs.Kept.{AreBelow}
use Rattle.mp_record.proofs.Apart.{below-push, below-more, told-apart, order-apart}
use Rattle.mp_record.proofs.notes.LaneNotes.push_apart.Goals as goal

pub invariant_of-self : goal.invariant_of-self
invariant_of-self c =
    let n = vec_len c.self.inside.apart in
    let apart = c.self.inside.apart.items in
    let ks = c.self.inside.kept.items in
    let len : n ≡ length apart = omega arith in
    let place : c.len-place.result ≡ length apart = c.len-place.ensures ∙ len in
    let room : c.self.inside.room ≡ c.args.self.now.spare = ap (λ v. v.spare) c.self.view_is in
    let p = c.push_reserved.ensures in
    let q = c.push_reserved-2.ensures in
    let low : c.len-place.result < n + 1 = omega (arith, c.len-place.ensures) in
    let a = below-push (n + 1) c.self.inside.kept.items (kept.Apart c.len-place.result) (below-more n c.self.inside.kept.items c.self.invariant.0) low in (
      rw (p.len, q.items) a,
      rw (p.items, q.items, place) (order-apart apart c.args.event 0 ks (omega arith) (subst (λ m. AreBelow m ks) len c.self.invariant.0) c.self.invariant.1),
      omega (arith, room, c.requires, q.len, q.capacity, c.self.invariant.2),
      omega (arith, room, c.requires, p.len, p.capacity, c.self.invariant.3),
      omega (arith, room, c.requires, p.len, c.self.invariant.4),
    )

pub returns-clause-events : goal.returns-clause-events
returns-clause-events c =
    let ks = c.self.inside.kept.items in
    let apart = c.self.inside.apart.items in
    let len : vec_len c.self.inside.apart ≡ length apart = omega arith in
    let place : c.len-place.result ≡ length apart = c.len-place.ensures ∙ len in
    let below : AreBelow (length apart) ks = subst (λ n. AreBelow n ks) len c.self.invariant.0 in
    rw (c.push_reserved.ensures.items, c.push_reserved-2.ensures.items, place)
    (told-apart apart c.args.event ks below ∙ ap (λ v. v.events ++ c.args.event ∷ []) c.self.view_is)
