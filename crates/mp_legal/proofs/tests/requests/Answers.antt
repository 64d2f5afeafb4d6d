use Rattle.std.proofs.Common.{◌≡◌, ◌-◌, ◌<◌, ◌==◌, ◌∷◌, ◌++◌, [], ℕ, false, List, map, sym, ap, ◌∙◌, subst, arith}
use Rattle.mp_checks.specs.Marks.{has}
use Rattle.mp_words.specs.RequestView.{RequestView}
use Rattle.mp_script.specs.Distinct.{IsDistinct}
use Rattle.mp_legal.proofs.Tested.{has_more, distinct_more, apart}
use Rattle.mp_legal.proofs.tests.requests.Goals as goal

pub loop-done-preserved : goal.loop-done-preserved
loop-done-preserved c =
    let r = c.make-in-loop-done.result in
    let xs = c.loop-done.all.items in
    let id : r.id ≡ c.args.most - 1 - c.loop-done.done = c.make-in-loop-done.ensures.id ∙ c.request_id-id.ensures in
    let items = c.in_ok-push.ensures.items in
    record {
      distinct = subst (λ (rs : List RequestView). IsDistinct (map (λ q. q.id) rs)) (sym items) (distinct_more xs r c.loop-done.invariant.distinct (c.loop-done.invariant.below r.id (omega (arith, id))));
      below = λ n lt.
          subst (λ (rs : List RequestView). has (map (λ q. q.id) rs) n ≡ false) (sym items)
          (has_more xs r n (c.loop-done.invariant.below n (omega (arith, lt))) (apart n r.id (omega (arith, id, lt))));
    }
