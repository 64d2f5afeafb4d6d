use Rattle.mp_desk.specs.Desks.{desk_of}
use Rattle.mp_desk.proofs.SubmittingEach.{GoesOn}
use Rattle.mp_desk.proofs.desk.Desk.submit_each.Given as goal

abbrev pub invariant-loop-request : goal.invariant-loop-request
invariant-loop-request g l = GoesOn l.near l.fn.requests.items l.request-iterator.rest.items (g.S.Steps.core l.fn.steps) (g.S.Steps.core l.steps) (desk_of l.fn.self) (desk_of l.self)
