use Rattle.std.proofs.lemmas.Result.{err_from_is_err_and}
use Rattle.mp_topology.proofs.EachController.{controller_stops, controller_more, controllers_more}
use Rattle.mp_topology.proofs.Values.{all_tables}
use Rattle.mp_topology.proofs.controllers.each_in.Goals as goal

pub returns-in_err-controller-in-Some-clause-read : goal.returns-in_err-controller-in-Some-clause-read
returns-in_err-controller-in-Some-clause-read c =
    let p = err_from_is_err_and c.from_residual.result c.from_residual.ensures.1 in
    rw (p.1, p.2) (λ n. controller_stops c.args.nodes c.args.items.now c.loop-i.i c.index-items-i.result c.in-Some.table.now c.loop-i.found.items c.deref.result.now _
    c.loop-i-test.true c.index-items-i.is c.in-Some.ensures c.loop-i.invariant.found c.deref.ensures.value c.loop-i.invariant.pass (c.in_err-controller-in-Some.ensures n))

pub returns-in-None : goal.returns-in-None
returns-in-None c = absurd (all_tables c.args.items.now c.loop-i.i c.index-items-i.result c.loop-i-test.true c.index-items-i.is c.requires.tables c.in-None.ensures)

pub loop-i-preserved : goal.loop-i-preserved
loop-i-preserved c = record {
  pass = controller_more c.args.nodes c.args.items.now c.loop-i.i c.index-items-i.result c.in-Some.table.now c.loop-i.found.items c.deref.result.now
      c.loop-i-test.true c.index-items-i.is c.in-Some.ensures c.loop-i.invariant.found c.deref.ensures.value c.loop-i.invariant.pass c.in_ok-controller-in-Some.ensures.0;
  found = rw c.in_ok-push-in-Some.ensures.items (controllers_more c.args.items.now c.loop-i.i c.index-items-i.result c.in-Some.table.now c.in_ok-controller-in-Some.controller c.loop-i.found.items
      c.loop-i-test.true c.index-items-i.is c.in-Some.ensures c.loop-i.invariant.found c.in_ok-controller-in-Some.ensures.1);
}
