use Rattle.mp_page.proofs.Refused.{page_or_refused}
use Rattle.mp_page.proofs.laws.page_or_refused.Goals as goal

pub returns : goal.returns
returns c = λ max bytes. page_or_refused max bytes
