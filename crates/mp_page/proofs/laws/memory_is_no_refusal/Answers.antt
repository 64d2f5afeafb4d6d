use Rattle.mp_page.proofs.Refused.{no_memory}
use Rattle.mp_page.proofs.laws.memory_is_no_refusal.Goals as goal

pub returns : goal.returns
returns c = λ max bytes h. no_memory max bytes h
