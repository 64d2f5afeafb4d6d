use Rattle.mp_page.proofs.Stated.{state_in_range}
use Rattle.mp_page.proofs.laws.stated_state_is_in_range.Goals as goal

pub returns : goal.returns
returns c = λ max bytes page nsid h. state_in_range max bytes page nsid h
