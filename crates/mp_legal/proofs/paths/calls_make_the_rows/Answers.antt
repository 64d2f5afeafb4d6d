use Rattle.mp_legal.proofs.MadeCalls.{run_rows}
use Rattle.mp_legal.proofs.paths.calls_make_the_rows.Goals as goal

pub returns : goal.returns
returns c = run_rows
