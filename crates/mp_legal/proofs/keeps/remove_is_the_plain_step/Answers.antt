use Rattle.mp_legal.proofs.RemoveStep.{remove_step}
use Rattle.mp_legal.proofs.keeps.remove_is_the_plain_step.Goals as goal

pub returns : goal.returns
returns c = λ at ctrl k l a b answer m x h i st ks. remove_step at ctrl k l a b answer m x h i st ks
