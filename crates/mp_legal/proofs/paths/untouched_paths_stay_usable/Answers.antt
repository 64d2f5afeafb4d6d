use Rattle.mp_legal.proofs.Untouched.{run_usable}
use Rattle.mp_legal.proofs.paths.untouched_paths_stay_usable.Goals as goal

pub returns : goal.returns
returns c = run_usable
