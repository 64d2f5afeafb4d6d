use Rattle.mp_script.proofs.WrittenBack.{written_again}
use Rattle.mp_script.proofs.laws.is_written_again.Goals as goal

pub returns : goal.returns
returns c = written_again
