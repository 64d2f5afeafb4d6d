use Rattle.mp_words.proofs.Effects.{next}
use Rattle.mp_words.proofs.effect_laws.changes_are_next.Goals as goal

pub returns : goal.returns
returns c = λ row new op is. next row new op is
