use Rattle.std.proofs.Common.{rules, ◌≡◌, ◌∙◌, ℕ, [], Some, length, ap, sym, subst}
use Rattle.mp_core.specs.declared.view.Role.TheVariants as role
use Rattle.mp_plain.specs.Lanes.{lanes_to}
use Rattle.mp_table.specs.declared.pass.Pass.{Pass}
use Rattle.mp_table.specs.Passes.{table_of, view_of, keeper_view}
use Rattle.mp_table.specs.Trials.{Idle}
use Rattle.mp_table.proofs.Trials.{snoc_length, ready_less, the_pass, join_last}
use Rattle.mp_table.proofs.many_tests.join_all.Goals as goal

pub loop-job-preserved : goal.loop-job-preserved
loop-job-preserved c =
    let z = table_of c.args.shared.now in
    let js = c.pop.new.self.items in
    let job = c.in-Some.job in
    let items = c.in-Some.ensures.items in
    let v = keeper_view c.loop-job.keeper in
    let all = c.loop-job.invariant in
    let ready = ready_less z 0 c.loop-job.jobs.items js job items all.2 in
    let len = ap length items ∙ snoc_length js job in
    let is : job ≡ Some c.unwrap.result = search rules in
    let same = the_pass ready.0.pass c.unwrap.result (sym ready.0.has ∙ is) in
    let idle = subst (λ (p : Pass). Idle (role.Lane (length js)) 0 [] (view_of p)) same ready.0.idle in
    let keeper = subst (λ (m : ℕ). Idle role.Keeper 84 (lanes_to m) v) len all.1 in
    (c.join.ensures.own, join_last (length js) v (view_of c.unwrap.result) (keeper_view c.join.new.pass) c.join.ensures.view keeper idle, ready.1)
