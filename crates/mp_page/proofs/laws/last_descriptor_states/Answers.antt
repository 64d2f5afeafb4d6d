use Rattle.mp_page.proofs.LastNamed.{last_states}
use Rattle.mp_page.proofs.laws.last_descriptor_states.Goals as goal

pub returns : goal.returns
returns c = λ page nsid before after group is named none. last_states nsid page.groups before after group is named none
