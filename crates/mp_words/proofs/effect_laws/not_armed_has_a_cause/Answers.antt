use Rattle.mp_words.proofs.Effects.{unarmed_op, unarmed_row}
use Rattle.mp_words.proofs.effect_laws.not_armed_has_a_cause.Goals as goal

pub returns-clause-op : goal.returns-clause-op
returns-clause-op c = λ row op is. unarmed_op row op is

pub returns-clause-armed : goal.returns-clause-armed
returns-clause-armed c = λ row op is. unarmed_row row op is
