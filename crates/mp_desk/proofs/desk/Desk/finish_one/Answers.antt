use Rattle.std.specs.List.{last_or}
use Rattle.mp_words.specs.Request.{asked_of, outcome_of}
use Rattle.std.proofs.Common.{◌≡◌, ◌∷◌, ◌++◌, [], None, refl, ap, sym, ◌∙◌, subst, arith}
use Rattle.mp_core.specs.Kinds.{Lands}
use Rattle.mp_submit.specs.declared.finish.Finished.TheVariants as finished
use Rattle.mp_submit.specs.Finishes.{Finishes}
use Rattle.mp_desk.specs.Desks.{desk_of, Leaves}
use Rattle.mp_desk.specs.Says.{moved_section}
use Rattle.mp_desk.specs.DeskView.{unended}
use Rattle.mp_desk.proofs.Finishing.{breaks, leaves, does, falls_leaves, falls_stands, goes_on, has_last, stands, stops, taken_aloft, weighs}
use Rattle.mp_desk.proofs.Sitting.{kept_same, ok_so}
use Rattle.mp_desk.proofs.desk.Desk.finish_one.Goals as goal

pub loop-init : goal.loop-init
loop-init g c = record { taken = c.requires.taken; kept = kept_same _; left = omega (arith, c.left-end.ensures); all = c.left-end.ensures; same = refl; stands = λ k h. h; weight = omega arith; again = λ near line k. (0, refl) }

pub returns-then-is_err-clause-leaves : goal.returns-then-is_err-clause-leaves
returns-then-is_err-clause-leaves g c =
    let b = g.S.Steps.core c.end.new.self in
    subst (Leaves (g.S.Steps.core c.args.steps.now) b) (sym c.reserve.ensures.desk)
    (falls_leaves c.args.flying (g.S.Steps.core c.args.steps.now) (g.S.Steps.core c.loop.steps) b (desk_of c.loop.self) c.loop.invariant.taken c.loop.invariant.kept (subst (Lands (g.S.Steps.core c.loop.steps) b) c.flight.ensures c.end.ensures))

pub returns-then-is_err-clause-stands : goal.returns-then-is_err-clause-stands
returns-then-is_err-clause-stands g c =
    let b = g.S.Steps.core c.end.new.self in
    falls_stands c.args.flying (g.S.Steps.core c.args.steps.now) (g.S.Steps.core c.loop.steps) b c.loop.invariant.stands (subst (Lands (g.S.Steps.core c.loop.steps) b) c.flight.ensures c.end.ensures)

pub returns-then-is_err-clause-weight : goal.returns-then-is_err-clause-weight
returns-then-is_err-clause-weight g c = let same : unended (desk_of c.reserve.new.self) ≡ unended (desk_of c.loop.self) = ap unended c.reserve.ensures.desk in omega (arith, same, c.loop.invariant.weight)

pub returns-then-is_err-clause-breaks : goal.returns-then-is_err-clause-breaks
returns-then-is_err-clause-breaks g c near line k =
    let b = g.S.Steps.core c.end.new.self in
    breaks c.args.answers.now c.args.flying (g.S.Steps.core c.args.steps.now) (g.S.Steps.core c.loop.steps) b (desk_of c.args.self.now) (desk_of c.loop.self) (desk_of c.reserve.new.self) c.loop.request c.loop.counter c.left-end.result c.loop.invariant c.reserve.ensures.desk
    (subst (Lands (g.S.Steps.core c.loop.steps) b) c.flight.ensures c.end.ensures) near line k

pub finish-requires-clause-sent : goal.finish-requires-clause-sent
finish-requires-clause-sent g c =
    ap (λ r. outcome_of (last_or None (asked_of r).tries)) c.loop.invariant.same ∙ (taken_aloft c.args.flying (g.S.Steps.core c.loop.steps) (desk_of c.loop.self) c.loop.invariant.taken).1

pub land-requires-clause-room : goal.land-requires-clause-room
land-requires-clause-room g c = ok_so c.reserve.result c.is_err.result c.is_err.ensures.value c.if-is_err.false c.reserve.ensures.room

pub land-requires-clause-tried : goal.land-requires-clause-tried
land-requires-clause-tried g c =
    has_last c.args.answers.now c.args.flying (g.S.Steps.core c.loop.steps) (g.S.Steps.core c.finish.new.steps) (desk_of c.loop.self) c.loop.request c.finish.new.request (finished.Done c.in-Done.field-0) c.loop.invariant.taken
    (subst (λ f. Finishes c.args.answers.now (g.S.Steps.core c.loop.steps) (g.S.Steps.core c.finish.new.steps) f c.loop.request c.finish.new.request (finished.Done c.in-Done.field-0)) c.flight-in-loop.ensures c.in-Done.ensures) c.loop.invariant.same tt

pub returns-in-Done-clause-does : goal.returns-in-Done-clause-does
returns-in-Done-clause-does g c near line k =
    does c.args.answers.now c.args.flying (g.S.Steps.core c.args.steps.now) (g.S.Steps.core c.loop.steps) (g.S.Steps.core c.finish.new.steps) (desk_of c.args.self.now) (desk_of c.loop.self) (desk_of c.land.new.self) (desk_of c.reserve.new.self) c.loop.request c.finish.new.request (finished.Done c.in-Done.field-0) c.loop.counter c.left-end.result c.loop.invariant
    (record {
      finishes = subst (λ f. Finishes c.args.answers.now (g.S.Steps.core c.loop.steps) (g.S.Steps.core c.finish.new.steps) f c.loop.request c.finish.new.request (finished.Done c.in-Done.field-0)) c.flight-in-loop.ensures c.in-Done.ensures;
      same = c.loop.invariant.same;
      left = tt;
      room = c.reserve.ensures.desk;
      desk = c.land.ensures;
    }) c.loop-test.true near line k

pub returns-in-Done-clause-leaves : goal.returns-in-Done-clause-leaves
returns-in-Done-clause-leaves g c =
    leaves c.args.answers.now c.args.flying (g.S.Steps.core c.args.steps.now) (g.S.Steps.core c.loop.steps) (g.S.Steps.core c.finish.new.steps) (desk_of c.args.self.now) (desk_of c.loop.self) (desk_of c.land.new.self) (desk_of c.reserve.new.self) c.loop.request c.finish.new.request (finished.Done c.in-Done.field-0) c.loop.counter c.left-end.result c.loop.invariant
    (record {
      finishes = subst (λ f. Finishes c.args.answers.now (g.S.Steps.core c.loop.steps) (g.S.Steps.core c.finish.new.steps) f c.loop.request c.finish.new.request (finished.Done c.in-Done.field-0)) c.flight-in-loop.ensures c.in-Done.ensures;
      same = c.loop.invariant.same;
      left = tt;
      room = c.reserve.ensures.desk;
      desk = c.land.ensures;
    })

pub returns-in-Done-clause-stands : goal.returns-in-Done-clause-stands
returns-in-Done-clause-stands g c =
    stands c.args.answers.now c.args.flying (g.S.Steps.core c.args.steps.now) (g.S.Steps.core c.loop.steps) (g.S.Steps.core c.finish.new.steps) (desk_of c.args.self.now) (desk_of c.loop.self) (desk_of c.land.new.self) (desk_of c.reserve.new.self) c.loop.request c.finish.new.request (finished.Done c.in-Done.field-0) c.loop.counter c.left-end.result c.loop.invariant
    (record { finishes = subst (λ f. Finishes c.args.answers.now (g.S.Steps.core c.loop.steps) (g.S.Steps.core c.finish.new.steps) f c.loop.request c.finish.new.request (finished.Done c.in-Done.field-0)) c.flight-in-loop.ensures c.in-Done.ensures; same = c.loop.invariant.same; left = tt; room = c.reserve.ensures.desk; desk = c.land.ensures })

pub returns-in-Done-clause-weight : goal.returns-in-Done-clause-weight
returns-in-Done-clause-weight g c =
    weighs c.args.answers.now c.args.flying (g.S.Steps.core c.args.steps.now) (g.S.Steps.core c.loop.steps) (g.S.Steps.core c.finish.new.steps) (desk_of c.args.self.now) (desk_of c.loop.self) (desk_of c.land.new.self) (desk_of c.reserve.new.self) c.loop.request c.finish.new.request (finished.Done c.in-Done.field-0) c.loop.counter c.left-end.result c.loop.invariant
    (record { finishes = subst (λ f. Finishes c.args.answers.now (g.S.Steps.core c.loop.steps) (g.S.Steps.core c.finish.new.steps) f c.loop.request c.finish.new.request (finished.Done c.in-Done.field-0)) c.flight-in-loop.ensures c.in-Done.ensures; same = c.loop.invariant.same; left = tt; room = c.reserve.ensures.desk; desk = c.land.ensures })

pub land_back-requires-clause-room : goal.land_back-requires-clause-room
land_back-requires-clause-room g c = ok_so c.reserve.result c.is_err.result c.is_err.ensures.value c.if-is_err.false c.reserve.ensures.room

pub land_back-requires-clause-tried : goal.land_back-requires-clause-tried
land_back-requires-clause-tried g c =
    has_last c.args.answers.now c.args.flying (g.S.Steps.core c.loop.steps) (g.S.Steps.core c.finish.new.steps) (desk_of c.loop.self) c.loop.request c.finish.new.request (finished.Back c.in-Back.note) c.loop.invariant.taken
    (subst (λ f. Finishes c.args.answers.now (g.S.Steps.core c.loop.steps) (g.S.Steps.core c.finish.new.steps) f c.loop.request c.finish.new.request (finished.Back c.in-Back.note)) c.flight-in-loop.ensures c.in-Back.ensures) c.loop.invariant.same tt

pub returns-in-Back-clause-does : goal.returns-in-Back-clause-does
returns-in-Back-clause-does g c near line k =
    does c.args.answers.now c.args.flying (g.S.Steps.core c.args.steps.now) (g.S.Steps.core c.loop.steps) (g.S.Steps.core c.finish.new.steps) (desk_of c.args.self.now) (desk_of c.loop.self) (desk_of c.land_back.new.self) (desk_of c.reserve.new.self) c.loop.request c.finish.new.request (finished.Back c.in-Back.note) c.loop.counter c.left-end.result c.loop.invariant
    (record {
      finishes = subst (λ f. Finishes c.args.answers.now (g.S.Steps.core c.loop.steps) (g.S.Steps.core c.finish.new.steps) f c.loop.request c.finish.new.request (finished.Back c.in-Back.note)) c.flight-in-loop.ensures c.in-Back.ensures;
      same = c.loop.invariant.same;
      left = tt;
      room = c.reserve.ensures.desk;
      desk = c.land_back.ensures;
    }) c.loop-test.true near line k

pub returns-in-Back-clause-leaves : goal.returns-in-Back-clause-leaves
returns-in-Back-clause-leaves g c =
    leaves c.args.answers.now c.args.flying (g.S.Steps.core c.args.steps.now) (g.S.Steps.core c.loop.steps) (g.S.Steps.core c.finish.new.steps) (desk_of c.args.self.now) (desk_of c.loop.self) (desk_of c.land_back.new.self) (desk_of c.reserve.new.self) c.loop.request c.finish.new.request (finished.Back c.in-Back.note) c.loop.counter c.left-end.result c.loop.invariant
    (record {
      finishes = subst (λ f. Finishes c.args.answers.now (g.S.Steps.core c.loop.steps) (g.S.Steps.core c.finish.new.steps) f c.loop.request c.finish.new.request (finished.Back c.in-Back.note)) c.flight-in-loop.ensures c.in-Back.ensures;
      same = c.loop.invariant.same;
      left = tt;
      room = c.reserve.ensures.desk;
      desk = c.land_back.ensures;
    })

pub returns-in-Back-clause-stands : goal.returns-in-Back-clause-stands
returns-in-Back-clause-stands g c =
    stands c.args.answers.now c.args.flying (g.S.Steps.core c.args.steps.now) (g.S.Steps.core c.loop.steps) (g.S.Steps.core c.finish.new.steps) (desk_of c.args.self.now) (desk_of c.loop.self) (desk_of c.land_back.new.self) (desk_of c.reserve.new.self) c.loop.request c.finish.new.request (finished.Back c.in-Back.note) c.loop.counter c.left-end.result c.loop.invariant
    (record { finishes = subst (λ f. Finishes c.args.answers.now (g.S.Steps.core c.loop.steps) (g.S.Steps.core c.finish.new.steps) f c.loop.request c.finish.new.request (finished.Back c.in-Back.note)) c.flight-in-loop.ensures c.in-Back.ensures; same = c.loop.invariant.same; left = tt; room = c.reserve.ensures.desk; desk = c.land_back.ensures })

pub returns-in-Back-clause-weight : goal.returns-in-Back-clause-weight
returns-in-Back-clause-weight g c =
    weighs c.args.answers.now c.args.flying (g.S.Steps.core c.args.steps.now) (g.S.Steps.core c.loop.steps) (g.S.Steps.core c.finish.new.steps) (desk_of c.args.self.now) (desk_of c.loop.self) (desk_of c.land_back.new.self) (desk_of c.reserve.new.self) c.loop.request c.finish.new.request (finished.Back c.in-Back.note) c.loop.counter c.left-end.result c.loop.invariant
    (record { finishes = subst (λ f. Finishes c.args.answers.now (g.S.Steps.core c.loop.steps) (g.S.Steps.core c.finish.new.steps) f c.loop.request c.finish.new.request (finished.Back c.in-Back.note)) c.flight-in-loop.ensures c.in-Back.ensures; same = c.loop.invariant.same; left = tt; room = c.reserve.ensures.desk; desk = c.land_back.ensures })

pub push_section-requires : goal.push_section-requires
push_section-requires g c = let room = (ok_so c.reserve.result c.is_err.result c.is_err.ensures.value c.if-is_err.false c.reserve.ensures.room).notes in omega (arith, room)

pub loop-preserved : goal.loop-preserved
loop-preserved g c =
    let slot : c.moved.inside.slot ≡ c.in-Moved.again.slot = ap (λ f. f.slot) (c.moved.view_is ∙ c.of.ensures) in
    goes_on c.args.answers.now c.args.flying (g.S.Steps.core c.args.steps.now) (g.S.Steps.core c.loop.steps) (g.S.Steps.core c.finish.new.steps) (desk_of c.args.self.now) (desk_of c.loop.self) _ (desk_of c.reserve.new.self) c.loop.request c.finish.new.request c.in-Moved.again c.in-Moved.row c.in-Moved.note c.loop.counter c.left-end.result c.loop.invariant
    (subst (λ f. Finishes c.args.answers.now (g.S.Steps.core c.loop.steps) (g.S.Steps.core c.finish.new.steps) f c.loop.request c.finish.new.request (finished.Moved c.in-Moved.again c.in-Moved.row c.in-Moved.note)) c.flight-in-loop.ensures c.in-Moved.ensures) c.reserve.ensures.desk
    (λ i. record (desk_of c.reserve.new.self) { events = (c.push_section.ensures.events ∙ (λ j. c.reserve.new.self.notes.events ++ moved_section c.in-Moved.note (slot j) c.in-Moved.row.version ∷ [])) i; keeps = c.push_section.ensures.keeps i }) c.loop-test.true

pub returns-clause-does : goal.returns-clause-does
returns-clause-does g c near line k =
    let b = g.S.Steps.core c.end-2.new.self in
    stops c.args.answers.now c.args.flying (g.S.Steps.core c.args.steps.now) (g.S.Steps.core c.loop.steps) b (desk_of c.args.self.now) (desk_of c.loop.self) c.loop.request c.loop.counter c.left-end.result c.loop.invariant c.loop-test.false
    (subst (Lands (g.S.Steps.core c.loop.steps) b) c.flight-2.ensures c.end-2.ensures) near line k

pub returns-clause-leaves : goal.returns-clause-leaves
returns-clause-leaves g c =
    let b = g.S.Steps.core c.end-2.new.self in
    falls_leaves c.args.flying (g.S.Steps.core c.args.steps.now) (g.S.Steps.core c.loop.steps) b (desk_of c.loop.self) c.loop.invariant.taken c.loop.invariant.kept (subst (Lands (g.S.Steps.core c.loop.steps) b) c.flight-2.ensures c.end-2.ensures)

pub returns-clause-stands : goal.returns-clause-stands
returns-clause-stands g c =
    let b = g.S.Steps.core c.end-2.new.self in
    falls_stands c.args.flying (g.S.Steps.core c.args.steps.now) (g.S.Steps.core c.loop.steps) b c.loop.invariant.stands (subst (Lands (g.S.Steps.core c.loop.steps) b) c.flight-2.ensures c.end-2.ensures)

pub returns-clause-weight : goal.returns-clause-weight
returns-clause-weight g c = omega (arith, c.loop.invariant.weight)
