use Rattle.mp_words.proofs.Effects.{refused_cause, refused_state, refusal_comes}
use Rattle.mp_words.proofs.effect_laws.refusals_have_a_cause.Goals as goal

pub returns-clause-cause : goal.returns-clause-cause
returns-clause-cause c = λ row op cstate is. refused_cause row op cstate is

pub returns-clause-cstate : goal.returns-clause-cstate
returns-clause-cstate c = λ row op cstate is. refused_state row op cstate is

pub returns-clause-comes : goal.returns-clause-comes
returns-clause-comes c = λ row op refused. refusal_comes row op refused
