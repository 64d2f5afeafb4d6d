use Rattle.std.proofs.Common.{◌∙◌, sym}
use Rattle.mp_keep.proofs.Adding.{adds}
use Rattle.mp_keep.proofs.keeper.Keeper.add.Goals as goal

pub returns-else-is_full : goal.returns-else-is_full
returns-else-is_full g c =
    adds c.args.self.now c.give.new.self (g.S.Steps.core c.args.steps.now) (g.S.Steps.core c.give.new.steps) c.args.gift c.args.by c.in-Some-free_slot.slot c.give.result
    c.requires.stands (sym c.slot_with.ensures ∙ c.in-None.is) (sym c.free_slot.ensures ∙ c.in-Some-free_slot.is) (sym c.is_full.ensures ∙ c.if-is_full.false) c.give.ensures
