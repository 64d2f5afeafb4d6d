use Rattle.std.proofs.Common.{◌+◌, ap, sym, ◌∙◌, subst}
use Rattle.mp_core.specs.Kinds.{Lands}
use Rattle.mp_core.specs.Views.{has_flight}
use Rattle.mp_desk.specs.Desks.{desk_of}
use Rattle.mp_desk.proofs.Ending.{EndsSome, ends_none, ends_more, ends_still, ends_all, end_leaves, end_stands, flies_now}
use Rattle.mp_desk.proofs.desk.Desk.end_all.Goals as goal
use Rattle.mp_desk.proofs.desk.Desk.end_all.Goals.{in-None, in-Some}

pub loop-init : goal.loop-init
loop-init g c = ends_none (g.S.Steps.core c.args.steps.now) (desk_of c.args.self.now) c.count-end.result c.requires.sits.flights c.count-end.ensures

pub end-requires : goal.end-requires
end-requires g c =
    record { flies = ap (λ f. has_flight f (g.S.Steps.core c.loop.steps).view) c.flight.ensures ∙ flies_now c.in-Some.flying _ _ (desk_of c.args.self.now) (desk_of c.loop.self) c.take.new.self.flying c.loop.counter c.count-end.result c.loop.invariant c.in-Some.ensures }

pub loop-preserved : goal.loop-preserved
loop-preserved g c =
    let a = g.S.Steps.core c.args.steps.now in
    let d = desk_of c.args.self.now in
    let e = desk_of c.loop.self in
    let after = record e { flying = c.take.new.self.flying } in
    elim c.match-take.branch [
      | in-None w ↦ subst (λ s. EndsSome a (g.S.Steps.core s) d after (c.loop.counter + 1) c.count-end.result) (sym w.steps-is)
          (subst (λ fs. EndsSome a (g.S.Steps.core c.loop.steps) d (record e { flying = fs }) (c.loop.counter + 1) c.count-end.result) (sym w.in-None.ensures.1) (ends_still a _ d e c.loop.counter c.count-end.result c.loop.invariant w.in-None.ensures.0 c.loop-test.true))
      | in-Some w ↦ subst (λ s. EndsSome a (g.S.Steps.core s) d after (c.loop.counter + 1) c.count-end.result) (sym w.steps-is)
          (ends_more w.in-Some.flying a (g.S.Steps.core c.loop.steps) (g.S.Steps.core w.end.new.self) d e c.take.new.self.flying c.loop.counter c.count-end.result c.loop.invariant w.in-Some.ensures
          (subst (Lands (g.S.Steps.core c.loop.steps) (g.S.Steps.core w.end.new.self)) w.flight.ensures w.end.ensures))
    ]

pub returns-clause-ends : goal.returns-clause-ends
returns-clause-ends g c = ends_all _ _ (desk_of c.args.self.now) (desk_of c.loop.self) c.loop.counter c.count-end.result c.loop.invariant c.loop-test.false

pub returns-clause-leaves : goal.returns-clause-leaves
returns-clause-leaves g c = end_leaves _ _ (desk_of c.args.self.now) (desk_of c.loop.self) (ends_all _ _ (desk_of c.args.self.now) (desk_of c.loop.self) c.loop.counter c.count-end.result c.loop.invariant c.loop-test.false) c.requires.sits

pub returns-clause-stands : goal.returns-clause-stands
returns-clause-stands g c = end_stands _ _ (desk_of c.args.self.now) (desk_of c.loop.self) (ends_all _ _ (desk_of c.args.self.now) (desk_of c.loop.self) c.loop.counter c.count-end.result c.loop.invariant c.loop-test.false)
