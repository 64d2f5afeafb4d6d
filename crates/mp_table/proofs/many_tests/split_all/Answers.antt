use Rattle.std.proofs.Common.{◌≡◌, ◌+◌, ℕ, Some, refl, sym, subst, arith}
use Rattle.mp_core.specs.Views.{kept_part, new_part}
use Rattle.mp_rule.specs.Sums.{times}
use Rattle.mp_table.specs.Passes.{table_of, view_of, keeper_view}
use Rattle.mp_table.specs.Jobs.{IsReady, AllReady}
use Rattle.mp_table.proofs.Trials.{split_fresh, split_more, new_idle, ready_more}
use Rattle.mp_table.proofs.many_tests.split_all.Goals as goal

pub split-pass-requires-clause-fresh : goal.split-pass-requires-clause-fresh
split-pass-requires-clause-fresh c =
    let v = keeper_view c.loop-n.keeper in
    subst (λ (l : ℕ). times l v.keeping.out ≡ 0) (sym c.lane.ensures) (split_fresh c.loop-n.n v _ c.loop-n.invariant.1)

pub loop-n-preserved : goal.loop-n-preserved
loop-n-preserved c =
    let n = c.loop-n.n in
    let z = table_of c.args.shared.now in
    let v = keeper_view c.loop-n.keeper in
    let all = c.loop-n.invariant in
    let low = c.loop-n-test.true in
    let kept = subst (λ (l : ℕ). keeper_view c.split-pass.new.pass ≡ kept_part l 1 v) c.lane.ensures c.split-pass.ensures.kept in
    let new = subst (λ (l : ℕ). view_of c.split-pass.result ≡ new_part l 1 v) c.lane.ensures c.split-pass.ensures.new in
    let room = all.3 in
    let same = c.push_reserved.ensures.capacity in
    let one : IsReady z n 1 (Some c.split-pass.result) = record { pass = c.split-pass.result; has = refl; own = c.split-pass.ensures.own.1; idle = new_idle n 1 v (view_of c.split-pass.result) new } in (
      c.split-pass.ensures.own.0,
      split_more n v (keeper_view c.split-pass.new.pass) (omega arith) kept all.1,
      subst (AllReady z (n + 1) 1) (sym c.push_reserved.ensures.items) (ready_more z n 1 c.loop-n.jobs.items (Some c.split-pass.result) all.2 one),
      omega arith,
    )
