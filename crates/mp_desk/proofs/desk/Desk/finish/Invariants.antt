use Rattle.mp_desk.specs.Desks.{desk_of}
use Rattle.mp_desk.proofs.FinishingEach.{GoesOn}
use Rattle.mp_desk.proofs.desk.Desk.finish.Given as goal

abbrev pub invariant-loop : goal.invariant-loop
invariant-loop g l = GoesOn l.answers l.named (g.S.Steps.core l.fn.steps) (g.S.Steps.core l.steps) (desk_of l.fn.self) (desk_of l.self) l.counter l.end
