use Rattle.std.proofs.Common.{◌∙◌, ◌++◌, ◌∷◌, [], ap, subst, sym}
use Rattle.mp_words.specs.declared.order.Order.{Order}
use Rattle.mp_words.specs.declared.entry.OrderEntry.{OrderEntry}
use Rattle.mp_words.specs.Order.{slots_of, next_order}
use Rattle.mp_keep.specs.Keeper.{KeeperView}
use Rattle.mp_keep.specs.Keeps.{AddsIn, with_order}
use Rattle.mp_keep.proofs.Adding.{adds_in, next_given, free_is}
use Rattle.mp_keep.proofs.keeper.Keeper.give.Goals as goal

pub keep-row-requires-clause-may : goal.keep-row-requires-clause-may
keep-row-requires-clause-may g c =
    let free = free_is c.args.self.now (g.S.Steps.core c.args.steps.now).view c.args.slot c.requires.stands c.requires.free in (
      free.status_is,
      c.requires.state.0,
      c.requires.state.1,
    )

pub store-requires-clause-next : goal.store-requires-clause-next
store-requires-clause-next g c =
    next_given c.args.self.now (g.S.Steps.core c.args.steps.now) (g.S.Steps.core c.keep-row.new.steps) c.args.gift c.args.by c.args.slot c.keep-row.result c.made_by-entry.result.order
    c.requires.stands c.requires.free c.requires.room c.keep-row.ensures
    (ap (λ (e : OrderEntry). e.order) c.made_by-entry.ensures ∙ c.with_slot-order.ensures ∙ ap (λ (o : Order). next_order o o.policy (slots_of o ++ c.args.slot ∷ [])) c.list-order.ensures.order)

pub returns : goal.returns
returns g c =
    let order = c.with_slot-order.ensures ∙ ap (λ (o : Order). next_order o o.policy (slots_of o ++ c.args.slot ∷ [])) c.list-order.ensures.order in
    subst (AddsIn c.args.self.now c.take_order.new.self (g.S.Steps.core c.args.steps.now) (g.S.Steps.core c.clear_given.new.steps) c.args.gift c.args.by c.args.slot) (sym c.added.ensures)
    (adds_in c.args.self.now c.take_order.new.self (g.S.Steps.core c.args.steps.now) (g.S.Steps.core c.keep-row.new.steps) (g.S.Steps.core c.store.new.steps) (g.S.Steps.core c.clear_given.new.steps) c.args.gift c.args.by c.args.slot c.keep-row.result c.made_by-entry.result
    c.requires.stands c.requires.free c.keep-row.ensures (c.made_by-entry.ensures ∙ (λ i. record { order = order i; by = c.args.by })) c.store.ensures.after c.clear_given.ensures
    (c.take_order.ensures ∙ ap (λ (k : KeeperView). with_order c.made_by-entry.result k) c.own.ensures))
