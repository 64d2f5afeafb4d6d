use Rattle.std.proofs.Common.{refl}
use Rattle.mp_desk.specs.Desks.{desk_of}
use Rattle.mp_desk.proofs.KeeperStands.{submit_stands}
use Rattle.mp_desk.proofs.Sitting.{last_made, placed_weighs, submit_leaves, submit_puts}
use Rattle.mp_desk.proofs.desk.Desk.submit.Goals as goal

pub note_try-requires-clause-tried : goal.note_try-requires-clause-tried
note_try-requires-clause-tried g c = (c.submit-answer.ensures.0, last_made _ _ _ _ _ _ _ c.submit-answer.ensures.1)

pub returns-clause-does : goal.returns-clause-does
returns-clause-does g c answers line k =
    let made = c.submit-answer.ensures.0 in
    let h = c.submit-answer.ensures.1 in
    let after = c.submit-answer.new.request in
    record {
      enough = c.if-not-can_pay.ensures.enough refl;
      goes = record {
        before = c.reserve-else-is_err.new.self;
        after = c.submit-answer.new.request;
        answer = c.submit-answer.result;
        made = c.submit-answer.ensures.0;
        same = λ i. record { id = c.reserve-else-is_err.ensures.id i; node = c.reserve-else-is_err.ensures.node i; tries = c.reserve-else-is_err.ensures.tries i; spare = 0 };
        submits = c.submit-answer.ensures.1;
        desk = submit_puts (g.S.Steps.core c.args.steps.now).lane c.reserve-else-is_err.new.self after _ made _ (desk_of c.args.self.now) (desk_of c.reserve.new.self) _ _ c.reserve.ensures.desk (λ i. record (desk_of c.reserve.new.self) { events = c.note_try.ensures.events made (last_made _ _ _ _ _ _ _ h) i; keeps = c.note_try.ensures.keeps i }) c.put.ensures h.answer_is h.id;
        keeper = refl;
      };
    }

pub returns-clause-leaves : goal.returns-clause-leaves
returns-clause-leaves g c =
    let made = c.submit-answer.ensures.0 in
    let h = c.submit-answer.ensures.1 in
    let after = c.submit-answer.new.request in
    submit_leaves _ _ _ c.reserve-else-is_err.new.self after _ made _ (desk_of c.args.self.now) _ h c.requires.sits
    (submit_puts (g.S.Steps.core c.args.steps.now).lane c.reserve-else-is_err.new.self after _ made _ (desk_of c.args.self.now) (desk_of c.reserve.new.self) _ _ c.reserve.ensures.desk (λ i. record (desk_of c.reserve.new.self) { events = c.note_try.ensures.events made (last_made _ _ _ _ _ _ _ h) i; keeps = c.note_try.ensures.keeps i }) c.put.ensures h.answer_is h.id)

pub returns-clause-stands : goal.returns-clause-stands
returns-clause-stands g c = submit_stands _ _ _ _ _ _ _ c.submit-answer.ensures.1

pub returns-clause-weight : goal.returns-clause-weight
returns-clause-weight g c =
    placed_weighs c.submit-answer.result c.submit-answer.new.request (desk_of c.args.self.now) (desk_of c.reserve.new.self) c.note_try.new.notes.events c.note_try.new.notes.keeps (desk_of c.put.new.self) c.reserve.ensures.desk c.put.ensures
