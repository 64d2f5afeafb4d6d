use Rattle.std.proofs.Common.{◌∙◌, ◌+◌, set}
use Rattle.mp_words.specs.declared.order.Order.{Order}
use Rattle.mp_keep.proofs.Lists.{last_is}
use Rattle.mp_keep.proofs.orders.with_slot.Goals as goal

pub returns : goal.returns
returns c =
    let o : Order = c.args.order.now in
    (λ i. record { version = o.version + 1; policy = o.policy; len = o.len + 1; slots = set o.slots (c.from.ensures i) c.args.slot })
    ∙ last_is o c.args.slot c.requires.order c.requires.room
