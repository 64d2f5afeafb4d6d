use Rattle.mp_checks.proofs.CheckLaws.{each_least}
use Rattle.mp_checks.proofs.laws.each_is_least.Goals as goal

pub returns : goal.returns
returns c = λ f xs fault h. each_least f xs fault h
