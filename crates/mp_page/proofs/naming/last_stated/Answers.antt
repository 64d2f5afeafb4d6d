use Rattle.std.proofs.Common.{sym, ◌∙◌}
use Rattle.mp_page.proofs.LastNamed.{stated_here, stated_before}
use Rattle.mp_page.proofs.naming.last_stated.Goals as goal
use Rattle.mp_page.proofs.naming.last_stated.Goals.{then-names, else-names}

pub loop-group-preserved : goal.loop-group-preserved
loop-group-preserved c =
    let i = c.loop-group.group-index in
    let group = c.group-item.result in
    elim c.if-names.branch [
      | then-names w ↦ w.stated-is ∙ sym (stated_here c.args.nsid c.args.groups.now i group group c.loop-group-test.true c.group-item.is (sym c.names.ensures ∙ w.if-names.true))
      | else-names w ↦ w.stated-is ∙ c.loop-group.invariant ∙ sym (stated_before c.args.nsid c.args.groups.now i group group c.loop-group-test.true c.group-item.is (sym c.names.ensures ∙ w.if-names.false))
    ]
