use Rattle.mp_legal.proofs.ReapStep.{reap_step}
use Rattle.mp_legal.proofs.keeps.reap_is_the_plain_step.Goals as goal

pub returns : goal.returns
returns c = λ at k l a b answer m x h i nobody st ks. reap_step at k l a b answer m x h i nobody st ks
