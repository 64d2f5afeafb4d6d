use Rattle.mp_checks.proofs.CheckLaws.{all_pass, no_fault}
use Rattle.mp_checks.proofs.laws.no_fault_where_all_pass.Goals as goal

pub returns : goal.returns
returns c = λ checks. (all_pass checks, no_fault checks)
