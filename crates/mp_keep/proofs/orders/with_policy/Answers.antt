use Rattle.mp_keep.proofs.Lists.{policy_is}
use Rattle.mp_keep.proofs.orders.with_policy.Goals as goal

pub returns : goal.returns
returns c = policy_is c.args.order.now c.args.policy c.requires.order
