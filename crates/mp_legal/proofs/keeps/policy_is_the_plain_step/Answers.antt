use Rattle.mp_legal.proofs.PolicyStep.{policy_step}
use Rattle.mp_legal.proofs.keeps.policy_is_the_plain_step.Goals as goal

pub returns : goal.returns
returns c = λ at policy k l a b entry m x h i st ks. policy_step at policy k l a b entry m x h i st ks
