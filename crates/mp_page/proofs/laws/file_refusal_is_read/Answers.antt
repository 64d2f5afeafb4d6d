use Rattle.mp_page.proofs.Files.{file_refused}
use Rattle.mp_page.proofs.laws.file_refusal_is_read.Goals as goal

pub returns : goal.returns
returns c = λ bytes refusal. file_refused bytes refusal
