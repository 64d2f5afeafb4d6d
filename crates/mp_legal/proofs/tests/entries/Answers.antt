use Rattle.std.proofs.Common.{◌≡◌, ◌+◌, ◌-◌, ◌&&◌, ◌==◌, nat_le, cond, ℕ, sym, ap, ◌∙◌, arith}
use Rattle.mp_legal.proofs.Tested.{round_more}
use Rattle.mp_legal.proofs.tests.entries.Goals as goal

pub loop-done-preserved : goal.loop-done-preserved
loop-done-preserved c =
    let w : ℕ = c.args.most - c.loop-done.done in
    let before : c.args.most + 1 - c.loop-done.done ≡ w + 1 = omega arith in
    let after : c.args.most + 1 - (c.loop-done.done + 1) ≡ w = omega arith in
    record {
      versions = λ slot v few.
          c.in_ok-add_each.ensures.versions slot v few
          ∙ ap (λ n. n + cond (w == v) 1 0) (c.loop-done.invariant.versions slot v few ∙ ap (λ n. cond (nat_le n v && nat_le v c.args.most) 1 0) before)
          ∙ round_more w c.args.most v (omega arith)
          ∙ ap (λ n. cond (nat_le n v && nat_le v c.args.most) 1 0) (sym after);
      counts = λ slot few. c.in_ok-add_each.ensures.counts slot few ∙ ap (λ n. n + 1) (c.loop-done.invariant.counts slot few);
    }

pub returns : goal.returns
returns c slot v few =
    let done : c.loop-done.done ≡ c.args.most = omega arith in
    let least : c.args.most + 1 - c.loop-done.done ≡ 1 = omega (arith, done) in
    c.loop-done.invariant.versions slot v few
    ∙ ap (λ n. cond (nat_le n v && nat_le v c.args.most) 1 0) least
    ∙ ap (λ n. cond (nat_le 1 v && nat_le v n) 1 0) (sym (c.loop-done.invariant.counts slot few ∙ done))
