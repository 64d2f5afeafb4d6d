use Rattle.std.proofs.Common.{◌≡◌, ℕ, ap, arith}
use Rattle.mp_core.specs.declared.view.View.{View}
use Rattle.mp_core.specs.Core.{Core}
use Rattle.mp_core.specs.Views.{order_stored}
use Rattle.mp_plain.specs.Stages.{two_listed}
use Rattle.mp_plain.specs.Told.{told_core}
use Rattle.mp_plain.proofs.Stages.{stage_as, ordered_stage, next_is, bare_is}
use Rattle.mp_plain.proofs.tests.remove.Goals as goal

pub store_order-requires-clause-left : goal.store_order-requires-clause-left
store_order-requires-clause-left c =
    let h = c.clear_all.ensures 2 0 _ (c.close.ensures c.if-not-close.false 2 0 _ (c.mark.ensures c.if-not-mark.false 2 0 two_listed c.requires.stage)) in
    let l = h.left in
    omega arith

pub store_order-requires-clause-next : goal.store_order-requires-clause-next
store_order-requires-clause-next c =
    next_is _ c.args.slot c.args.entry.order c.requires.slot c.requires.order
    (c.clear_all.ensures 2 0 _ (c.close.ensures c.if-not-close.false 2 0 _ (c.mark.ensures c.if-not-mark.false 2 0 two_listed c.requires.stage)))

pub free-requires-clause-left : goal.free-requires-clause-left
free-requires-clause-left c =
    let before = c.clear_all.ensures 2 0 _ (c.close.ensures c.if-not-close.false 2 0 _ (c.mark.ensures c.if-not-mark.false 2 0 two_listed c.requires.stage)) in
    let stored = stage_as _ _ 1 c.args.entry.order.version _ (ap (λ (x : Core). x.view) c.store_order.ensures.after) (ordered_stage _ c.args.entry 1 0 _ before) in
    let h = c.empty.ensures c.if-not-empty.false 1 _ _ (c.close-2.ensures c.if-not-close-2.false 1 _ _ stored) in
    h.left

pub free-requires-clause-bare : goal.free-requires-clause-bare
free-requires-clause-bare c =
    let before = c.clear_all.ensures 2 0 _ (c.close.ensures c.if-not-close.false 2 0 _ (c.mark.ensures c.if-not-mark.false 2 0 two_listed c.requires.stage)) in
    let stored = stage_as _ _ 1 c.args.entry.order.version _ (ap (λ (x : Core). x.view) c.store_order.ensures.after) (ordered_stage _ c.args.entry 1 0 _ before) in
    bare_is _ c.args.slot c.args.entry.order.version c.args.entry.order c.requires.slot c.requires.order (c.empty.ensures c.if-not-empty.false 1 _ _ (c.close-2.ensures c.if-not-close-2.false 1 _ _ stored))
