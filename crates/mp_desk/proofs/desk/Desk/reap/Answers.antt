use Rattle.std.proofs.Common.{◌∷◌, [], ◌∙◌, refl, subst}
use Rattle.mp_record.specs.declared.event.Event.TheVariants as event
use Rattle.mp_words.specs.declared.op.Maker.TheVariants as maker
use Rattle.mp_keep.specs.Keeper.{KeeperView}
use Rattle.mp_keep.specs.Walks.{Reaps, entries_of}
use Rattle.mp_desk.specs.DeskView.{entering, noting}
use Rattle.mp_desk.specs.Desks.{desk_of}
use Rattle.mp_desk.specs.Says.{reaped_said}
use Rattle.mp_desk.proofs.Keeping.{makes_room, notes_weigh, reaps_stays, room_leaves, room_weighs, stays_leaves}
use Rattle.mp_desk.proofs.KeeperStands.{stands_room}
use Rattle.mp_desk.proofs.Sitting.{kept_same}
use Rattle.mp_desk.proofs.desk.Desk.reap.Goals as goal

pub returns-then-is_err-clause-leaves : goal.returns-then-is_err-clause-leaves
returns-then-is_err-clause-leaves g c =
    room_leaves _ _ (desk_of c.args.self.now) (desk_of c.args.self.now) (desk_of c.reserve_with.new.self) c.args.keeper.now c.reserve_with.new.keeper (kept_same _) c.requires.sits c.reserve_with.ensures.desk c.requires.stands c.reserve_with.ensures.keeper

pub reap-answer-requires-clause-stands : goal.reap-answer-requires-clause-stands
reap-answer-requires-clause-stands g c = stands_room c.args.keeper.now c.reserve_with.new.keeper (g.S.Steps.core c.args.steps.now).view c.reserve_with.ensures.keeper c.requires.stands

pub returns-clause-does : goal.returns-clause-does
returns-clause-does g c near answers = record {
  enough = c.if-not-can_pay.ensures.enough refl;
  goes = record {
    room = c.reserve_with.new.keeper.spare;
    answer = c.reap-answer.result;
    reaps = subst (λ (z : KeeperView). Reaps z c.reap-answer.new.self (g.S.Steps.core c.args.steps.now) (g.S.Steps.core c.reap-answer.new.steps) (maker.Line (g.S.Steps.core c.args.steps.now).lane c.args.line) c.reap-answer.result) c.reserve_with.ensures.keeper (subst (λ n. Reaps c.reserve_with.new.keeper c.reap-answer.new.self (g.S.Steps.core c.args.steps.now) (g.S.Steps.core c.reap-answer.new.steps) (maker.Line n c.args.line) c.reap-answer.result) c.lane.ensures c.reap-answer.ensures);
    desk = c.note_reaped.ensures ∙ (λ i. entering (entries_of c.reap-answer.result) (noting (event.At c.args.line (reaped_said c.reap-answer.result) ∷ []) (c.reserve_with.ensures.desk i)));
  };
}

pub returns-clause-leaves : goal.returns-clause-leaves
returns-clause-leaves g c =
    stays_leaves (g.S.Steps.core c.args.steps.now) (g.S.Steps.core c.reap-answer.new.steps) (desk_of c.args.self.now) (desk_of c.reserve_with.new.self) (desk_of c.note_reaped.new.self) (entries_of c.reap-answer.result) (event.At c.args.line (reaped_said c.reap-answer.result) ∷ []) c.reap-answer.new.self
    (reaps_stays c.reserve_with.new.keeper c.reap-answer.new.self (g.S.Steps.core c.args.steps.now) (g.S.Steps.core c.reap-answer.new.steps) _ c.reap-answer.result c.reap-answer.ensures c.requires.sits.closed) c.requires.sits c.reserve_with.ensures.desk c.note_reaped.ensures c.reap-answer.ensures.stands

pub returns-then-is_err-clause-weight : goal.returns-then-is_err-clause-weight
returns-then-is_err-clause-weight g c = room_weighs (desk_of c.args.self.now) (desk_of c.reserve_with.new.self) c.reserve_with.ensures.desk

pub returns-clause-weight : goal.returns-clause-weight
returns-clause-weight g c = notes_weigh (desk_of c.args.self.now) (desk_of c.reserve_with.new.self) (desk_of c.note_reaped.new.self) (entries_of c.reap-answer.result) (event.At c.args.line (reaped_said c.reap-answer.result) ∷ []) c.reserve_with.ensures.desk c.note_reaped.ensures

pub returns-then-is_err-clause-breaks : goal.returns-then-is_err-clause-breaks
returns-then-is_err-clause-breaks g c near answers = makes_room (g.S.Steps.core c.args.steps.now) (desk_of c.args.self.now) (desk_of c.reserve_with.new.self) c.args.keeper.now c.reserve_with.new.keeper c.reserve_with.ensures.desk c.reserve_with.ensures.keeper
