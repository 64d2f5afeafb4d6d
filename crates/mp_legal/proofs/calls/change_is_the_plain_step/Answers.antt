use Rattle.mp_legal.proofs.ChangeStep.{change_step}
use Rattle.mp_legal.proofs.calls.change_is_the_plain_step.Goals as goal

pub returns : goal.returns
returns c = λ at ctrl op a b ending n seen m x h k. change_step at ctrl op a b ending n seen m x h k
