use Rattle.mp_script.proofs.Pieces.{behind_at, behind_none}
use Rattle.mp_script.proofs.splitting.behind_line.Goals as goal

pub returns-then-b-eq10 : goal.returns-then-b-eq10
returns-then-b-eq10 c = behind_at c.args.bytes.now c.split_at.result.1.now c.loop-i.i c.loop-i-test.true c.if-b-eq10.true c.loop-i.invariant c.split_at.ensures.back

pub returns : goal.returns
returns c = behind_none c.args.bytes.now c.split_at-2.result.1.now c.loop-i.i c.loop-i-test.false c.loop-i.invariant c.split_at-2.ensures.back
