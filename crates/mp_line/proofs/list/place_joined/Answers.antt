use Rattle.std.proofs.Common.{rules, take}
use Rattle.mp_line.proofs.Lists.{list_more}
use Rattle.mp_line.proofs.list.place_joined.Goals as goal

pub returns-clause-bytes : goal.returns-clause-bytes
returns-clause-bytes c = list_more c.args.text.now.items (take c.args.at c.args.line.now) (take c.place_number-at.result c.place_number-at.new.line) _ c.in-Some.first.now c.loop-n.n-index c.in-Some.rest.now c.args.numbers.now (search rules) c.place_number-at.ensures.bytes c.loop-n.invariant.bytes c.loop-n-test.false
