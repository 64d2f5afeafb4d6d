use Rattle.std.proofs.Common.{◌∙◌, sym}
use Rattle.mp_keep.proofs.Marking.{removes, path_is}
use Rattle.mp_keep.proofs.keeper.Keeper.remove.Goals as goal

pub mark-requires-clause-path : goal.mark-requires-clause-path
mark-requires-clause-path g c =
    path_is c.args.self.now (g.S.Steps.core c.args.steps.now).view c.args.ctrl c.in-Some.slot c.requires.stands (sym c.path_slot.ensures ∙ c.in-Some.is)

pub returns-in-Some : goal.returns-in-Some
returns-in-Some g c =
    removes c.args.self.now c.mark.new.self (g.S.Steps.core c.args.steps.now) (g.S.Steps.core c.mark.new.steps) c.args.ctrl c.in-Some.slot c.args.by c.mark.result
    c.requires.stands (sym c.path_slot.ensures ∙ c.in-Some.is) c.mark.ensures
