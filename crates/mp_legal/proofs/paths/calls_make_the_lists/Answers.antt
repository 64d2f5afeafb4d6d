use Rattle.mp_legal.proofs.MadeCalls.{run_orders}
use Rattle.mp_legal.proofs.paths.calls_make_the_lists.Goals as goal

pub returns : goal.returns
returns c = run_orders
