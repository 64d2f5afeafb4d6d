use Rattle.std.proofs.Common.{◌≡◌, length, vec_len, map, ap, sym, subst, ◌∙◌, arith}
use Rattle.mp_words.specs.KeptTry.{AreFit}
use Rattle.mp_words.specs.Request.{attempts_of, tried_of}
use Rattle.mp_words.proofs.ToldTries.{all-attempts, fit-few}
use Rattle.mp_words.proofs.tries.Tries.attempts.Goals as goal

pub attempts_in-requires : goal.attempts_in-requires
attempts_in-requires c = omega (arith, c.as_slice.ensures.len, fit-few (vec_len c.self.inside.whole) 0 c.self.inside.kept.items c.self.invariant.0, c.self.invariant.1)

pub returns-clause-count : goal.returns-clause-count
returns-clause-count c =
    let ks = c.self.inside.kept.items in
    let whole = c.self.inside.whole.items in
    let len : vec_len c.self.inside.whole ≡ length whole = omega arith in
    let fit = subst (λ n. AreFit n 0 ks) len c.self.invariant.0 in
    c.attempts_in.ensures.count ∙ ap (λ ts. attempts_of (map tried_of ts)) c.as_slice.ensures.value
    ∙ sym (all-attempts whole ks fit) ∙ ap (λ v. attempts_of (map tried_of v.items)) c.self.view_is
