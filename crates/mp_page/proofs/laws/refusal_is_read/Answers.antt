use Rattle.mp_page.proofs.Refused.{refusal_read}
use Rattle.mp_page.proofs.laws.refusal_is_read.Goals as goal

pub returns : goal.returns
returns c = λ max bytes refusal. refusal_read max bytes refusal
