use Rattle.mp_words.proofs.Effects.{stays_stored, stays_given}
use Rattle.mp_words.proofs.effect_laws.changes_may_be_stored.Goals as goal

pub returns-clause-stored : goal.returns-clause-stored
returns-clause-stored c = λ row op is suits. stays_stored row op is suits

pub returns-clause-given : goal.returns-clause-given
returns-clause-given c = λ row op suits. stays_given row op suits
