use Rattle.std.proofs.Common.{◌≡◌, ◌++◌, ◌∷◌, [], length, length-append, vec_len, sym, ap, subst, ◌∙◌, arith}
use Rattle.mp_words.specs.declared.kept_try.KeptTry.TheVariants as kept
use Rattle.mp_words.specs.KeptTry.{AreFit, IsAgain}
use Rattle.mp_words.proofs.ToldTries.{fit-few, fit-whole, fit-again, told-whole}
use Rattle.mp_words.proofs.tries.Tries.push.Goals as goal

pub again_of-requires : goal.again_of-requires
again_of-requires c = omega (arith, c.as_slice.ensures.len, fit-few (vec_len c.self.inside.whole) 0 c.self.inside.kept.items c.self.invariant.0, c.self.invariant.1)

pub invariant_of-self : goal.invariant_of-self
invariant_of-self c =
    let n = vec_len c.self.inside.whole in
    let ks = c.self.inside.kept.items in
    let len : length c.as_slice.result.now ≡ n = c.as_slice.ensures.len in
    let again : IsAgain n c.in-Some.kept = subst (λ m. IsAgain m c.in-Some.kept) len c.in-Some.ensures.again in
    let fit = fit-again n 0 ks c.in-Some.kept c.self.invariant.0 again in
    let p = c.push.ensures in
    let room = ap (λ v. v.spare) c.self.view_is in (
      subst (AreFit n 0) (sym p.items) fit,
      omega (arith, ap length p.items, length-append ks (c.in-Some.kept ∷ []), c.requires, room),
    )

pub overflow_cast-place : goal.overflow_cast-place
overflow_cast-place c = omega (arith, c.len-place.ensures, fit-few (vec_len c.self.inside.whole) 0 c.self.inside.kept.items c.self.invariant.0, c.self.invariant.1)

pub invariant_of-self-in-None : goal.invariant_of-self-in-None
invariant_of-self-in-None c =
    let n = vec_len c.self.inside.whole in
    let ks = c.self.inside.kept.items in
    let fit = fit-whole n 0 ks c.self.invariant.0 in
    let p = c.push_reserved.ensures in
    let q = c.push-in-None.ensures in
    let room = ap (λ v. v.spare) c.self.view_is in (
      rw (p.len, q.items, c.len-place.ensures) fit,
      omega (arith, ap length q.items, length-append ks (kept.Whole c.len-place.result ∷ []), c.requires, room),
    )

pub returns-in-None-clause-items : goal.returns-in-None-clause-items
returns-in-None-clause-items c =
    let ks = c.self.inside.kept.items in
    let whole = c.self.inside.whole.items in
    let len : vec_len c.self.inside.whole ≡ length whole = omega arith in
    let place : c.len-place.result ≡ length whole = c.len-place.ensures ∙ len in
    let fit : AreFit (length whole) 0 ks = subst (λ n. AreFit n 0 ks) len c.self.invariant.0 in
    rw (c.push_reserved.ensures.items, c.push-in-None.ensures.items, place)
    (told-whole whole c.args.made ks fit ∙ ap (λ v. v.items ++ c.args.made ∷ []) c.self.view_is)
