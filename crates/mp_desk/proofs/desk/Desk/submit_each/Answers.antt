use Rattle.std.proofs.Common.{sym, subst, arith}
use Rattle.std.proofs.lemmas.List.{nil_from_length}
use Rattle.mp_desk.specs.Desks.{desk_of}
use Rattle.mp_desk.proofs.SubmittingEach.{GoesOn, breaks, ends, goes_on, starts, stops, weighs}
use Rattle.mp_desk.proofs.Sitting.{kept_same}
use Rattle.mp_desk.proofs.desk.Desk.submit_each.Goals as goal

pub loop-request-init : goal.loop-request-init
loop-request-init g c = subst (λ rs. GoesOn c.args.near.now c.args.requests.items rs (g.S.Steps.core c.args.steps.now) (g.S.Steps.core c.args.steps.now) (desk_of c.args.self.now) (desk_of c.args.self.now)) (sym c.into_iter-request-iterator.ensures.into_iter_gives.0) (starts c.args.near.now c.args.requests.items (g.S.Steps.core c.args.steps.now) (desk_of c.args.self.now) c.requires.sits (kept_same _) c.requires.waiting)

pub loop-request-preserved : goal.loop-request-preserved
loop-request-preserved g c = goes_on c.submit.result c.in-Ok.field-0 c.args.near.now c.args.requests.items c.loop-request.request-iterator.rest.items c.next.new.self.rest.items c.in-Some.request _ (g.S.Steps.core c.loop-request.steps) (g.S.Steps.core c.submit.new.steps) (desk_of c.args.self.now) (desk_of c.loop-request.self) (desk_of c.submit.new.self) c.loop-request.invariant c.in-Some.ensures.steps.0 c.in-Ok.is c.submit.ensures.does c.submit.ensures.leaves c.submit.ensures.stands c.submit.ensures.weight

pub returns-in-Err-clause-does : goal.returns-in-Err-clause-does
returns-in-Err-clause-does g c answers line k = stops (Unit {0}) c.submit.result c.in-Err.halt c.args.near.now c.args.requests.items c.loop-request.request-iterator.rest.items c.next.new.self.rest.items c.in-Some.request _ (g.S.Steps.core c.loop-request.steps) (g.S.Steps.core c.submit.new.steps) (desk_of c.args.self.now) (desk_of c.loop-request.self) (desk_of c.submit.new.self) c.loop-request.invariant c.in-Some.ensures.steps.0 c.in-Err.is c.submit.ensures.does answers line k

pub returns-clause-does : goal.returns-clause-does
returns-clause-does g c answers line k = ends c.args.near.now c.args.requests.items c.loop-request.request-iterator.rest.items _ _ (desk_of c.args.self.now) (desk_of c.loop-request.self) c.loop-request.invariant (nil_from_length c.loop-request.request-iterator.rest.items (omega (arith, c.in-None.ensures.steps.0))) answers line k

pub returns-in-Err-clause-stands : goal.returns-in-Err-clause-stands
returns-in-Err-clause-stands g c k s = c.submit.ensures.stands k (c.loop-request.invariant.stands k s)

pub returns-in-Err-clause-weight : goal.returns-in-Err-clause-weight
returns-in-Err-clause-weight g c = weighs c.args.near.now c.args.requests.items c.loop-request.request-iterator.rest.items c.next.new.self.rest.items c.in-Some.request (g.S.Steps.core c.args.steps.now) (g.S.Steps.core c.loop-request.steps) (desk_of c.args.self.now) (desk_of c.loop-request.self) (desk_of c.submit.new.self) c.loop-request.invariant c.in-Some.ensures.steps.0 c.submit.ensures.weight

pub returns-clause-stands : goal.returns-clause-stands
returns-clause-stands g c = c.loop-request.invariant.stands

pub returns-clause-weight : goal.returns-clause-weight
returns-clause-weight g c = omega (arith, c.loop-request.invariant.weight)

pub returns-in-Err-clause-breaks : goal.returns-in-Err-clause-breaks
returns-in-Err-clause-breaks g c answers line k = breaks (Unit {0}) c.submit.result c.in-Err.halt c.args.near.now c.args.requests.items c.loop-request.request-iterator.rest.items c.next.new.self.rest.items c.in-Some.request (g.S.Steps.core c.args.steps.now) (g.S.Steps.core c.loop-request.steps) (g.S.Steps.core c.submit.new.steps) (desk_of c.args.self.now) (desk_of c.loop-request.self) (desk_of c.submit.new.self) c.loop-request.invariant c.in-Some.ensures.steps.0 c.in-Err.is c.submit.ensures.breaks answers line k
