use Rattle.mp_script.proofs.WrittenBack.{read_again}
use Rattle.mp_script.proofs.laws.is_read_again.Goals as goal

pub returns : goal.returns
returns c = read_again
