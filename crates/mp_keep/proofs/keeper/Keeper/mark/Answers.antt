use Rattle.mp_keep.proofs.Marking.{meets_row}
use Rattle.mp_keep.proofs.keeper.Keeper.mark.Goals as goal

pub returns-in-Moved : goal.returns-in-Moved
returns-in-Moved g c =
    meets_row c.args.self.now (g.S.Steps.core c.args.steps.now) (g.S.Steps.core c.keeper_row-old.new.self) (g.S.Steps.core c.keep_row.new.self) c.args.slot c.keeper_row-old.result c.in-Moved.row c.args.by
    c.requires.stands c.requires.path c.keeper_row-old.ensures c.in-Moved.ensures.ends
