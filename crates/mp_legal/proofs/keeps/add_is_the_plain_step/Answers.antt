use Rattle.mp_legal.proofs.AddStep.{add_step}
use Rattle.mp_legal.proofs.keeps.add_is_the_plain_step.Goals as goal

pub returns : goal.returns
returns c = λ at gift k l a b answer m x h i st ks state. add_step at gift k l a b answer m x h i st ks state
