use Rattle.std.proofs.Common.{rules, ◌≡◌, ◌∙◌, Some, [], sym, subst}
use Rattle.mp_core.specs.declared.view.Role.TheVariants as role
use Rattle.mp_table.specs.declared.pass.Pass.{Pass}
use Rattle.mp_table.specs.Passes.{view_of}
use Rattle.mp_table.specs.Trials.{Idle}
use Rattle.mp_table.proofs.Trials.{the_pass}
use Rattle.mp_table.proofs.many_tests.visit.Goals as goal

pub returns : goal.returns
returns c n ready =
    let is : c.args.job.now ≡ Some c.unwrap-pass.result = search rules in
    let same : ready.pass ≡ c.unwrap-pass.result = the_pass ready.pass c.unwrap-pass.result (sym ready.has ∙ is) in
    let begun = subst (λ (p : Pass). Idle (role.Lane n) 1 [] (view_of p)) (same ∙ sym c.make-on.ensures.pass) ready.idle in
    let inside = c.enter-section.ensures.sits (role.Lane n) 0 [] (c.load-side.ensures.idle (role.Lane n) 1 [] begun) in
    let after = c.leave.ensures.idle (role.Lane n) 0 [] inside in
    record {
      pass = c.pass.result;
      has = search rules;
      own = c.pass.ensures.own ∙ c.leave.ensures.own ∙ c.enter-section.ensures.own ∙ c.load-side.ensures.own ∙ c.make-on.ensures.shared;
      idle = subst (λ (p : Pass). Idle (role.Lane n) 0 [] (view_of p)) (sym c.pass.ensures.pass) after;
    }
