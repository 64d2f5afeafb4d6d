use Rattle.mp_desk.specs.Desks.{desk_of}
use Rattle.mp_desk.proofs.Keeping.{GoesOn}
use Rattle.mp_desk.proofs.desk.Desk.remove.Given as goal

abbrev pub invariant-loop : goal.invariant-loop
invariant-loop g l = GoesOn l.line l.ctrl (g.S.Steps.core l.fn.steps) (g.S.Steps.core l.steps) (desk_of l.fn.self) (desk_of l.self) l.fn.keeper l.keeper l.counter l.end
