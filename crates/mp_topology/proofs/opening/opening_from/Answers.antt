use Rattle.std.proofs.lemmas.Result.{err_from_is_err_and}
use Rattle.mp_topology.proofs.EachOpening.{opening_stops, opening_more, places_more}
use Rattle.mp_topology.proofs.Places.{name_of}
use Rattle.std.proofs.Common.{map}
use Rattle.mp_topology.proofs.opening.opening_from.Goals as goal

pub returns-in_err-place : goal.returns-in_err-place
returns-in_err-place c =
    let p = err_from_is_err_and c.from_residual.result c.from_residual.ensures.1 in
    rw (p.1, p.2) (λ n. opening_stops (map name_of c.args.controllers.now) c.args.items.now c.loop-i.i c.index-items-i.result c.loop-i.found.items c.deref.result.now _
    c.loop-i-test.true c.index-items-i.is c.loop-i.invariant.found c.deref.ensures.value c.loop-i.invariant.pass (c.in_err-place.ensures n))

pub loop-i-preserved : goal.loop-i-preserved
loop-i-preserved c = record {
  pass = opening_more (map name_of c.args.controllers.now) c.args.items.now c.loop-i.i c.index-items-i.result c.loop-i.found.items c.deref.result.now
      c.loop-i-test.true c.index-items-i.is c.loop-i.invariant.found c.deref.ensures.value c.loop-i.invariant.pass c.in_ok-place.ensures.0;
  found = rw c.in_ok-push.ensures.items (places_more (map name_of c.args.controllers.now) c.args.items.now c.loop-i.i c.index-items-i.result c.in_ok-place.place c.loop-i.found.items
      c.loop-i-test.true c.index-items-i.is c.loop-i.invariant.found c.in_ok-place.ensures.1);
}
