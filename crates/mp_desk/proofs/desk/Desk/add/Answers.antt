use Rattle.std.proofs.Common.{◌∷◌, [], ◌∙◌, refl, subst}
use Rattle.mp_record.specs.declared.event.Event.TheVariants as event
use Rattle.mp_words.specs.declared.op.Maker.TheVariants as maker
use Rattle.mp_keep.specs.Keeper.{KeeperView}
use Rattle.mp_keep.specs.Keeps.{Adds}
use Rattle.mp_desk.specs.DeskView.{entering, noting}
use Rattle.mp_desk.specs.Desks.{desk_of}
use Rattle.mp_desk.specs.Says.{added_said, entry_added}
use Rattle.mp_desk.proofs.Keeping.{adds_stays, makes_room, notes_weigh, room_leaves, room_weighs, stays_leaves}
use Rattle.mp_desk.proofs.KeeperStands.{stands_room}
use Rattle.mp_desk.proofs.Sitting.{kept_same, ok_so}
use Rattle.mp_desk.proofs.desk.Desk.add.Goals as goal

pub returns-then-is_err-clause-leaves : goal.returns-then-is_err-clause-leaves
returns-then-is_err-clause-leaves g c =
    room_leaves _ _ (desk_of c.args.self.now) (desk_of c.args.self.now) (desk_of c.reserve_with.new.self) c.args.keeper.now c.reserve_with.new.keeper (kept_same _) c.requires.sits c.reserve_with.ensures.desk c.requires.stands c.reserve_with.ensures.keeper

pub add-answer-requires-clause-stands : goal.add-answer-requires-clause-stands
add-answer-requires-clause-stands g c = stands_room c.args.keeper.now c.reserve_with.new.keeper (g.S.Steps.core c.args.steps.now).view c.reserve_with.ensures.keeper c.requires.stands

pub returns-clause-does : goal.returns-clause-does
returns-clause-does g c near answers = record {
  enough = c.if-not-can_pay.ensures.enough refl;
  goes = record {
    room = c.reserve_with.new.keeper.spare;
    answer = c.add-answer.result;
    adds = subst (λ (z : KeeperView). Adds z c.add-answer.new.self (g.S.Steps.core c.args.steps.now) (g.S.Steps.core c.add-answer.new.steps) c.args.gift (maker.Line (g.S.Steps.core c.args.steps.now).lane c.args.line) c.add-answer.result) c.reserve_with.ensures.keeper (subst (λ n. Adds c.reserve_with.new.keeper c.add-answer.new.self (g.S.Steps.core c.args.steps.now) (g.S.Steps.core c.add-answer.new.steps) c.args.gift (maker.Line n c.args.line) c.add-answer.result) c.lane.ensures c.add-answer.ensures);
    desk = c.note_added.ensures ∙ (λ i. entering (entry_added c.add-answer.result) (noting (event.At c.args.line (added_said c.add-answer.result) ∷ []) (c.reserve_with.ensures.desk i)));
  };
}

pub returns-clause-leaves : goal.returns-clause-leaves
returns-clause-leaves g c =
    stays_leaves (g.S.Steps.core c.args.steps.now) (g.S.Steps.core c.add-answer.new.steps) (desk_of c.args.self.now) (desk_of c.reserve_with.new.self) (desk_of c.note_added.new.self) (entry_added c.add-answer.result) (event.At c.args.line (added_said c.add-answer.result) ∷ []) c.add-answer.new.self
    (adds_stays c.reserve_with.new.keeper c.add-answer.new.self (g.S.Steps.core c.args.steps.now) (g.S.Steps.core c.add-answer.new.steps) c.args.gift _ c.add-answer.result c.add-answer.ensures.to c.requires.sits.closed) c.requires.sits c.reserve_with.ensures.desk c.note_added.ensures c.add-answer.ensures.stands

pub note_added-requires : goal.note_added-requires
note_added-requires g c = ok_so c.reserve_with.result c.is_err.result c.is_err.ensures.value c.if-is_err.false c.reserve_with.ensures.room

pub returns-then-is_err-clause-weight : goal.returns-then-is_err-clause-weight
returns-then-is_err-clause-weight g c = room_weighs (desk_of c.args.self.now) (desk_of c.reserve_with.new.self) c.reserve_with.ensures.desk

pub returns-clause-weight : goal.returns-clause-weight
returns-clause-weight g c = notes_weigh (desk_of c.args.self.now) (desk_of c.reserve_with.new.self) (desk_of c.note_added.new.self) (entry_added c.add-answer.result) (event.At c.args.line (added_said c.add-answer.result) ∷ []) c.reserve_with.ensures.desk c.note_added.ensures

pub returns-then-is_err-clause-breaks : goal.returns-then-is_err-clause-breaks
returns-then-is_err-clause-breaks g c near answers = makes_room (g.S.Steps.core c.args.steps.now) (desk_of c.args.self.now) (desk_of c.reserve_with.new.self) c.args.keeper.now c.reserve_with.new.keeper c.reserve_with.ensures.desk c.reserve_with.ensures.keeper
