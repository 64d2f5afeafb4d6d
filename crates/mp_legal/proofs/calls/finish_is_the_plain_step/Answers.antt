use Rattle.mp_legal.proofs.FinishStep.{finish_step}
use Rattle.mp_legal.proofs.calls.finish_is_the_plain_step.Goals as goal

pub returns : goal.returns
returns c = λ answers a b f before after answer m x h k req lane flies sent once asked. finish_step answers a b f before after answer m x h k req lane flies sent once asked
