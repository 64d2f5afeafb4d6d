use Rattle.mp_page.proofs.Refused.{page_read}
use Rattle.mp_page.proofs.laws.page_is_read.Goals as goal

pub returns : goal.returns
returns c = λ max bytes page. page_read max bytes page
