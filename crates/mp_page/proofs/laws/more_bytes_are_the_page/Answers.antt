use Rattle.mp_page.proofs.Reserved.{with_more}
use Rattle.mp_page.proofs.laws.more_bytes_are_the_page.Goals as goal

pub returns : goal.returns
returns c = λ max bytes more page is. with_more max bytes more page is
