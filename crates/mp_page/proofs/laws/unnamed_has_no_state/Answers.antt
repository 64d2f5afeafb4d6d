use Rattle.mp_page.proofs.LastNamed.{none_states}
use Rattle.mp_page.proofs.laws.unnamed_has_no_state.Goals as goal

pub returns : goal.returns
returns c = λ page nsid. none_states nsid page.groups
