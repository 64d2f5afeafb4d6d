use Rattle.std.proofs.Common.{◌∙◌, ap, subst, sym}
use Rattle.mp_words.specs.declared.order.Order.{Order}
use Rattle.mp_words.specs.Order.{slots_of, next_order}
use Rattle.mp_keep.specs.Keeps.{SetsPolicy}
use Rattle.mp_keep.proofs.Stands.{sets_policy, same_next, same_slots}
use Rattle.mp_keep.proofs.keeper.Keeper.set_policy.Goals as goal

pub store-requires-clause-next : goal.store-requires-clause-next
store-requires-clause-next g c =
    same_next c.args.self.now (g.S.Steps.core c.args.steps.now).view c.with_policy.result c.requires.stands
    (same_slots c.args.self.now c.args.policy c.with_policy.result c.requires.stands.sound.lawful (c.with_policy.ensures ∙ ap (λ (o : Order). next_order o c.args.policy (slots_of o)) c.list-order.ensures.order))

pub returns : goal.returns
returns g c =
    subst (SetsPolicy c.args.self.now c.take_order.new.self (g.S.Steps.core c.args.steps.now) (g.S.Steps.core c.clear_all.new.steps) c.args.policy c.args.by) (sym c.copied.ensures)
    (sets_policy c.args.self.now c.take_order.new.self (g.S.Steps.core c.args.steps.now) (g.S.Steps.core c.store.new.steps) (g.S.Steps.core c.clear_all.new.steps) c.args.policy c.args.by c.with_policy.result
    c.requires.stands (c.with_policy.ensures ∙ ap (λ (o : Order). next_order o c.args.policy (slots_of o)) c.list-order.ensures.order) c.store.ensures.after c.clear_all.ensures c.take_order.ensures)
