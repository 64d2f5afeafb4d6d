use Rattle.std.proofs.Common.{ap, sym, ◌∙◌, length, arith}
use Rattle.std.proofs.lemmas.List.{take_all}
use Rattle.mp_desk.specs.Indexed.{flying, flying_of}
use Rattle.mp_desk.proofs.Indexed.{step_none, has_not}
use Rattle.mp_desk.proofs.flights.place_from.Goals as goal

pub returns-then-is_at : goal.returns-then-is_at
returns-then-is_at c = record { before = c.loop-place.invariant; none = λ none. has_not (sym c.is_at.ensures ∙ c.if-is_at.true) none }

pub loop-place-preserved : goal.loop-place-preserved
loop-place-preserved c = step_none c.args.named.now c.loop-place.place c.args.sent.now c.loop-place.invariant (sym c.is_at.ensures ∙ c.if-is_at.false)

pub returns : goal.returns
returns c =
    let all = take_all c.loop-place.place c.args.sent.now c.loop-place-test.false in
    let none = sym (ap (λ l. flying_of c.args.named.now (flying l)) all) ∙ c.loop-place.invariant in
    record { before = ap (λ l. flying_of c.args.named.now (flying l)) (take_all (length c.args.sent.now) c.args.sent.now (omega arith)) ∙ none; none = λ hasnt. none }
