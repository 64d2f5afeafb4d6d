use Rattle.std.proofs.Common.{◌≡◌, length, vec_len, map, filter, sym, ap, subst, ◌∙◌, arith}
use Rattle.mp_record.specs.RunView.{is_plain}
use Rattle.mp_record.specs.Kept.{told, AreBelow, ArePlainIn}
use Rattle.mp_record.proofs.PlainIn.{tells_plain, told-plain, plain-in, plain-below, plain-order}
use Rattle.mp_record.proofs.notes.LaneNotes.take_sections.Goals as goal

pub pack-requires-clause-plain : goal.pack-requires-clause-plain
pack-requires-clause-plain c =
    let apart = c.self.inside.apart.items in
    let ks = c.self.inside.kept.items in
    let is : c.keep_plain.new.kept.items ≡ filter (tells_plain apart) ks =
    c.keep_plain.ensures.items ∙ ap (λ es. filter (tells_plain es) ks) c.as_slice.ensures.value in
    let len : vec_len c.self.inside.apart ≡ length apart = omega arith in
    subst (ArePlainIn (length apart) 0) (sym is) (plain-in apart (length apart) 0 ks (subst (λ n. AreBelow n ks) len c.self.invariant.0) c.self.invariant.1)

pub invariant_of-self : goal.invariant_of-self
invariant_of-self c =
    let now = c.pack.new.kept.items in
    let e = c.pack.ensures in
    let plain = e.plain in
    let len : length c.pack.new.apart.items ≡ vec_len c.pack.new.apart = omega arith in (
      subst (λ n. AreBelow n now) len (plain-below (length c.pack.new.apart.items) 0 now plain),
      plain-order c.pack.new.apart.items (length c.pack.new.apart.items) 0 now plain,
      omega (arith, e.kept, e.kept_room, c.keep_plain.ensures.len, c.keep_plain.ensures.capacity, c.self.invariant.2),
      omega (arith, e.apart, e.apart_room, c.self.invariant.3),
      omega (arith, e.apart, c.self.invariant.4),
    )

pub returns : goal.returns
returns c =
    let apart = c.self.inside.apart.items in
    let ks = c.self.inside.kept.items in
    let is : c.keep_plain.new.kept.items ≡ filter (tells_plain apart) ks =
    c.keep_plain.ensures.items ∙ ap (λ es. filter (tells_plain es) ks) c.as_slice.ensures.value in
    c.pack.ensures.told ∙ ap (map (told apart)) is ∙ told-plain apart ks ∙ ap (λ v. filter is_plain v.events) c.self.view_is
