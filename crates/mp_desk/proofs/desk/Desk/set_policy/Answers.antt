use Rattle.std.proofs.Common.{◌∷◌, [], append-nil, sym, ◌∙◌, refl, subst}
use Rattle.mp_record.specs.declared.event.Event.TheVariants as event
use Rattle.mp_record.specs.declared.event.Said.TheVariants as said
use Rattle.mp_words.specs.declared.op.Maker.TheVariants as maker
use Rattle.mp_keep.specs.Keeper.{KeeperView}
use Rattle.mp_keep.specs.Keeps.{SetsPolicy}
use Rattle.mp_desk.specs.DeskView.{noting}
use Rattle.mp_desk.specs.Desks.{desk_of}
use Rattle.mp_desk.proofs.Keeping.{makes_room, room_leaves, room_weighs, sets_stays, stays_leaves}
use Rattle.mp_desk.proofs.KeeperStands.{stands_room}
use Rattle.mp_desk.proofs.Sitting.{kept_same}
use Rattle.mp_desk.proofs.desk.Desk.set_policy.Goals as goal

pub returns-then-is_err-clause-leaves : goal.returns-then-is_err-clause-leaves
returns-then-is_err-clause-leaves g c =
    room_leaves _ _ (desk_of c.args.self.now) (desk_of c.args.self.now) (desk_of c.reserve_with.new.self) c.args.keeper.now c.reserve_with.new.keeper (kept_same _) c.requires.sits c.reserve_with.ensures.desk c.requires.stands c.reserve_with.ensures.keeper

pub set_policy-entry-requires-clause-stands : goal.set_policy-entry-requires-clause-stands
set_policy-entry-requires-clause-stands g c = stands_room c.args.keeper.now c.reserve_with.new.keeper (g.S.Steps.core c.args.steps.now).view c.reserve_with.ensures.keeper c.requires.stands

pub returns-clause-does : goal.returns-clause-does
returns-clause-does g c near answers = record {
  enough = c.if-not-can_pay.ensures.enough refl;
  goes = record {
    room = c.reserve_with.new.keeper.spare;
    entry = c.set_policy-entry.result;
    sets = subst (λ (z : KeeperView). SetsPolicy z c.set_policy-entry.new.self (g.S.Steps.core c.args.steps.now) (g.S.Steps.core c.set_policy-entry.new.steps) c.args.policy (maker.Line (g.S.Steps.core c.args.steps.now).lane c.args.line) c.set_policy-entry.result) c.reserve_with.ensures.keeper (subst (λ n. SetsPolicy c.reserve_with.new.keeper c.set_policy-entry.new.self (g.S.Steps.core c.args.steps.now) (g.S.Steps.core c.set_policy-entry.new.steps) c.args.policy (maker.Line n c.args.line) c.set_policy-entry.result) c.lane.ensures c.set_policy-entry.ensures);
    desk = (λ i. record (desk_of c.reserve_with.new.self) { events = c.push_said.ensures.events i; keeps = c.push_said.ensures.keeps i }) ∙ (λ i. noting (event.At c.args.line (said.Policy c.set_policy-entry.result.order.version) ∷ []) (c.reserve_with.ensures.desk i));
  };
}

pub returns-clause-leaves : goal.returns-clause-leaves
returns-clause-leaves g c =
    stays_leaves (g.S.Steps.core c.args.steps.now) (g.S.Steps.core c.set_policy-entry.new.steps) (desk_of c.args.self.now) (desk_of c.reserve_with.new.self) _ [] (event.At c.args.line (said.Policy c.set_policy-entry.result.order.version) ∷ []) c.set_policy-entry.new.self
    (sets_stays c.reserve_with.new.keeper c.set_policy-entry.new.self (g.S.Steps.core c.args.steps.now) (g.S.Steps.core c.set_policy-entry.new.steps) c.args.policy _ c.set_policy-entry.result c.set_policy-entry.ensures c.requires.sits.closed) c.requires.sits c.reserve_with.ensures.desk
    (λ i. record (desk_of c.reserve_with.new.self) { events = c.push_said.ensures.events i; keeps = c.push_said.ensures.keeps i; rows = sym (append-nil c.reserve_with.new.self.rows.items) i }) c.set_policy-entry.ensures.stands

pub returns-then-is_err-clause-weight : goal.returns-then-is_err-clause-weight
returns-then-is_err-clause-weight g c = room_weighs (desk_of c.args.self.now) (desk_of c.reserve_with.new.self) c.reserve_with.ensures.desk

pub returns-clause-weight : goal.returns-clause-weight
returns-clause-weight g c = room_weighs (desk_of c.args.self.now) (desk_of c.reserve_with.new.self) c.reserve_with.ensures.desk

pub returns-then-is_err-clause-breaks : goal.returns-then-is_err-clause-breaks
returns-then-is_err-clause-breaks g c near answers = makes_room (g.S.Steps.core c.args.steps.now) (desk_of c.args.self.now) (desk_of c.reserve_with.new.self) c.args.keeper.now c.reserve_with.new.keeper c.reserve_with.ensures.desk c.reserve_with.ensures.keeper
