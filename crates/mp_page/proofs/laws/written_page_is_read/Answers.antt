use Rattle.mp_page.specs.Written.{page_bytes}
use Rattle.mp_page.proofs.Pages.{page_found}
use Rattle.mp_page.proofs.Written.{page_again}
use Rattle.mp_page.proofs.laws.written_page_is_read.Goals as goal

pub returns : goal.returns
returns c = λ max page can fits within. page_found max (page_bytes page) page (page_again max page can.groups fits.groups fits.changes can.count within)
