use Rattle.mp_words.proofs.Effects.{keeps_ctrl, keeps_ana}
use Rattle.mp_words.proofs.effect_laws.changes_keep_the_controller.Goals as goal

pub returns-clause-ctrl : goal.returns-clause-ctrl
returns-clause-ctrl c = λ row op keeps. keeps_ctrl row op keeps

pub returns-clause-ana : goal.returns-clause-ana
returns-clause-ana c = λ row op keeps. keeps_ana row op keeps
