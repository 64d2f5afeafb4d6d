use Rattle.mp_script.proofs.Readable.{read_says, says_read}
use Rattle.mp_script.proofs.laws.script_is_read.Goals as goal

pub returns : goal.returns
returns c = λ t pages bytes script. (read_says t pages bytes script, says_read t pages bytes script)
