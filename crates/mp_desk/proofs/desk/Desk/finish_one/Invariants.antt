use Rattle.mp_desk.specs.Desks.{desk_of}
use Rattle.mp_desk.proofs.Finishing.{GoesOn}
use Rattle.mp_desk.proofs.desk.Desk.finish_one.Given as goal

abbrev pub invariant-loop : goal.invariant-loop
invariant-loop g l = GoesOn l.answers (record { flight = l.flight; request = l.fn.flying.request }) (g.S.Steps.core l.fn.steps) (g.S.Steps.core l.steps) (desk_of l.fn.self) (desk_of l.self) l.request l.counter l.end
