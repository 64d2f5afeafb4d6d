use Rattle.mp_desk.specs.Desks.{desk_of}
use Rattle.mp_desk.proofs.Ending.{EndsSome}
use Rattle.mp_desk.proofs.desk.Desk.end_all.Given as goal

abbrev pub invariant-loop : goal.invariant-loop
invariant-loop g l = EndsSome (g.S.Steps.core l.fn.steps) (g.S.Steps.core l.steps) (desk_of l.fn.self) (desk_of l.self) l.counter l.end
