use Rattle.std.proofs.Common.{◌≡◌, ◌∙◌, ap, sym, subst}
use Rattle.mp_core.specs.Kinds.{IsNext}
use Rattle.mp_change.specs.Clears.{cleared_upto}
use Rattle.mp_keep.specs.declared.removal.Removal.{Removal}
use Rattle.mp_keep.specs.declared.stage.Stage.TheVariants.{HalfA}
use Rattle.mp_keep.specs.Walks.{next_side, entry_without}
use Rattle.mp_keep.proofs.Looking.{close_next, looks_closed}
use Rattle.mp_keep.proofs.keeper.Keeper.look.Goals as goal

pub close_at-requires-clause-next : goal.close_at-requires-clause-next
close_at-requires-clause-next g c =
    subst (λ (r : Removal). r.stage ≡ HalfA → IsNext (cleared_upto r.slot 8 (g.S.Steps.core c.scan-found.new.self).view) (entry_without c.args.self.now r.slot c.args.by.now).order) (sym c.removal-removal.ensures)
    (close_next c.args.self.now (g.S.Steps.core c.args.steps.now) (g.S.Steps.core c.scan-found.new.self) c.args.place c.next_side.result c.scan-found.result c.args.by.now
    c.requires.stands c.requires.at (c.next_side.ensures.side ∙ ap (λ (r : Removal). next_side r.stage) c.removal-removal.ensures) c.scan-found.ensures.after c.if-found-eq0.true)

pub returns-then-found-eq0 : goal.returns-then-found-eq0
returns-then-found-eq0 g c =
    looks_closed c.args.self.now c.close_at.new.self (g.S.Steps.core c.args.steps.now) (g.S.Steps.core c.scan-found.new.self) (g.S.Steps.core c.close_at.new.steps) c.args.place c.next_side.result c.scan-found.result c.args.by.now
    c.requires.stands c.requires.at (c.next_side.ensures.side ∙ ap (λ (r : Removal). next_side r.stage) c.removal-removal.ensures) c.scan-found.ensures c.if-found-eq0.true c.close_at.ensures.keeper c.close_at.ensures.core
