use Rattle.mp_legal.proofs.SubmitStep.{submit_step}
use Rattle.mp_legal.proofs.calls.submit_is_the_plain_step.Goals as goal

pub returns : goal.returns
returns c = λ near a b before after answer made m x h k asked. submit_step near a b before after answer made m x h k asked
