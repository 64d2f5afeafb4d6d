use Rattle.std.proofs.Common.{◌≡◌, ◌∙◌, ◌<◌, ◌+◌, length, ap, sym, subst, arith}
use Rattle.mp_core.specs.Kinds.{LooksDepth, status_at}
use Rattle.mp_core.specs.Status.{bare}
use Rattle.mp_keep.specs.declared.removal.Removal.{Removal}
use Rattle.mp_keep.specs.Keeper.{is_past, removal_at}
use Rattle.mp_keep.specs.Walks.{looks_left, first_of, next_grace, next_side}
use Rattle.mp_keep.specs.declared.reaped.Reaped.TheVariants.{Again}
use Rattle.mp_keep.specs.declared.stop.Stop.TheVariants.{Section}
use Rattle.mp_keep.proofs.Freeing.{bare_is}
use Rattle.mp_keep.proofs.Walking.{deep_fewer, deep_walk, deep_stands, walk_on, walk_met, walk_deep, walk_free, look_walk, look_fewer}
use Rattle.mp_keep.proofs.keeper.Keeper.+walk.Goals as goal

pub free-requires-clause-bare : goal.free-requires-clause-bare
free-requires-clause-bare g t c =
    let r = c.removal-removal.ensures in
    let many = c.removals.ensures in
    let low = c.if-place-removals.false in
    subst (λ (z : Removal). status_at z.slot (g.S.Steps.core c.keeper_depth-depth.new.self).view ≡ bare) (sym r)
    (bare_is c.args.self.now (g.S.Steps.core c.args.steps.now) (g.S.Steps.core c.keeper_depth-depth.new.self) c.args.place c.keeper_depth-depth.result c.requires.stands (omega arith)
    (sym (ap (λ (z : Removal). is_past z.stage) r) ∙ sym c.is_past.ensures ∙ c.if-is_past.true)
    (subst (λ (z : Removal). LooksDepth (g.S.Steps.core c.args.steps.now) (g.S.Steps.core c.keeper_depth-depth.new.self) z.slot c.keeper_depth-depth.result) r c.keeper_depth-depth.ensures) c.if-depth-eq0.true)

pub returns-then-depth-eq0 : goal.returns-then-depth-eq0
returns-then-depth-eq0 g t c =
    let r = c.removal-removal.ensures in
    let many = c.removals.ensures in
    let low = c.if-place-removals.false in
    walk_free c.args.self.now c.free.new.self (g.S.Steps.core c.args.steps.now) (g.S.Steps.core c.keeper_depth-depth.new.self) (g.S.Steps.core c.free.new.steps) c.args.by.now c.args.place c.keeper_depth-depth.result c.flips-flips.result c.args.first c.free.result
    c.requires.stands c.requires.may (omega arith) (sym (ap (λ (z : Removal). is_past z.stage) r) ∙ sym c.is_past.ensures ∙ c.if-is_past.true)
    (subst (λ (z : Removal). LooksDepth (g.S.Steps.core c.args.steps.now) (g.S.Steps.core c.keeper_depth-depth.new.self) z.slot c.keeper_depth-depth.result) r c.keeper_depth-depth.ensures) c.if-depth-eq0.true c.free.ensures c.flips-flips.ensures

pub walk-requires : goal.walk-requires
walk-requires g t c κs within =
    let r = c.removal-removal.ensures in
    let many = c.removals.ensures in
    let low = c.if-place-removals.false in
    let at : c.args.place < length c.args.self.now.removals = omega arith in
    let over = sym (ap (λ (z : Removal). is_past z.stage) r) ∙ sym c.is_past.ensures ∙ c.if-is_past.true in
    let looks = subst (λ (z : Removal). LooksDepth (g.S.Steps.core c.args.steps.now) (g.S.Steps.core c.keeper_depth-depth.new.self) z.slot c.keeper_depth-depth.result) r c.keeper_depth-depth.ensures in (
      subst (λ n. looks_left c.args.self.now (c.args.place + 1) < n) c.decreases (deep_fewer c.args.self.now c.args.place at over),
      (
        within,
        (
          deep_walk c.args.self.now (g.S.Steps.core c.args.steps.now) (g.S.Steps.core c.keeper_depth-depth.new.self) c.args.place c.keeper_depth-depth.result c.requires.may at over looks,
          deep_stands c.args.self.now (g.S.Steps.core c.args.steps.now) (g.S.Steps.core c.keeper_depth-depth.new.self) (removal_at c.args.self.now c.args.place).slot c.keeper_depth-depth.result c.requires.stands looks c.if-depth-eq0.false,
        ),
      ),
    )

pub returns-then-is_past : goal.returns-then-is_past
returns-then-is_past g t c =
    let r = c.removal-removal.ensures in
    let many = c.removals.ensures in
    let low = c.if-place-removals.false in
    walk_deep c.args.self.now c.walk.new.self (g.S.Steps.core c.args.steps.now) (g.S.Steps.core c.keeper_depth-depth.new.self) (g.S.Steps.core c.walk.new.steps) c.args.by.now c.args.place c.keeper_depth-depth.result c.args.first c.first_of.result c.walk.result
    (omega arith) (sym (ap (λ (z : Removal). is_past z.stage) r) ∙ sym c.is_past.ensures ∙ c.if-is_past.true)
    (subst (λ (z : Removal). LooksDepth (g.S.Steps.core c.args.steps.now) (g.S.Steps.core c.keeper_depth-depth.new.self) z.slot c.keeper_depth-depth.result) r c.keeper_depth-depth.ensures) c.if-depth-eq0.false (c.first_of.ensures ∙ ap (λ (z : Removal). first_of c.args.first z.slot c.keeper_depth-depth.result) r) c.walk.ensures

pub returns-then-inside-gt0 : goal.returns-then-inside-gt0
returns-then-inside-gt0 g t c =
    let some = c.if-inside-gt0.true in
    walk_met c.args.self.now c.look-inside.new.self (g.S.Steps.core c.args.steps.now) (g.S.Steps.core c.look-inside.new.steps) c.args.by.now c.args.place c.look-inside.result c.args.first c.stopped.result
    c.look-inside.ensures (λ e. absurd (omega arith)) (c.stopped.ensures ∙ ap (λ (z : Removal). Again z.slot (Section (next_grace z.stage) (next_side z.stage) c.look-inside.result)) c.removal-removal.ensures)

pub walk-requires-2 : goal.walk-requires-2
walk-requires-2 g t c κs within =
    let none = c.if-inside-gt0.false in
    let zero_in : c.look-inside.result ≡ 0 = omega arith in (
      subst (λ n. looks_left c.look-inside.new.self c.args.place < n) c.decreases (look_fewer c.args.self.now c.look-inside.new.self (g.S.Steps.core c.args.steps.now) (g.S.Steps.core c.look-inside.new.steps) c.args.by.now c.args.place c.look-inside.result c.look-inside.ensures zero_in c.requires.may),
      (within, (look_walk c.args.self.now c.look-inside.new.self (g.S.Steps.core c.args.steps.now) (g.S.Steps.core c.look-inside.new.steps) c.args.by.now c.args.place c.look-inside.result c.look-inside.ensures zero_in c.requires.may, c.look-inside.ensures.stands)),
    )

pub returns : goal.returns
returns g t c =
    let none = c.if-inside-gt0.false in
    walk_on c.args.self.now c.look-inside.new.self c.walk-2.new.self (g.S.Steps.core c.args.steps.now) (g.S.Steps.core c.look-inside.new.steps) (g.S.Steps.core c.walk-2.new.steps) c.args.by.now c.args.place c.look-inside.result c.args.first c.walk-2.result
    c.look-inside.ensures (omega arith) c.walk-2.ensures
