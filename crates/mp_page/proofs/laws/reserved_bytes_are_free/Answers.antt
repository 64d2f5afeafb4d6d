use Rattle.mp_page.proofs.Reserved.{but_reserved}
use Rattle.mp_page.proofs.laws.reserved_bytes_are_free.Goals as goal

pub returns : goal.returns
returns c = λ max bytes other page is len agree. but_reserved max bytes other page is len agree
