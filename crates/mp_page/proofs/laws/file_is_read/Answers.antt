use Rattle.mp_page.proofs.Files.{file_read}
use Rattle.mp_page.proofs.laws.file_is_read.Goals as goal

pub returns : goal.returns
returns c = λ bytes boxes. file_read bytes boxes
