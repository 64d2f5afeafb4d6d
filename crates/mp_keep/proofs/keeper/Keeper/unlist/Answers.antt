use Rattle.std.proofs.Common.{◌∙◌, ap, subst, sym}
use Rattle.mp_words.specs.declared.order.Order.{Order}
use Rattle.mp_words.specs.declared.entry.OrderEntry.{OrderEntry}
use Rattle.mp_words.specs.Order.{slots_of, next_order}
use Rattle.mp_core.specs.Core.{Core}
use Rattle.mp_core.specs.Kinds.{IsNext}
use Rattle.mp_keep.proofs.Distinct.{but}
use Rattle.mp_keep.proofs.keeper.Keeper.unlist.Goals as goal

pub store-requires-clause-next : goal.store-requires-clause-next
store-requires-clause-next g c =
    let is = ap (λ (e : OrderEntry). e.order) c.made_by-entry.ensures ∙ c.without_slot-order.ensures ∙ ap (λ (o : Order). next_order o o.policy (but c.args.slot (slots_of o))) c.list-order.ensures.order in
    subst (λ (z : Core). IsNext z.view c.made_by-entry.result.order) (sym c.clear_slot.ensures) (subst (IsNext _) (sym is) c.requires.next)
