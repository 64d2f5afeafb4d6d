use Rattle.mp_checks.proofs.CheckLaws.{first_from_fault, fault_from_first}
use Rattle.mp_checks.proofs.laws.fault_is_first.Goals as goal

pub returns : goal.returns
returns c = λ checks fault. (first_from_fault checks fault, fault_from_first checks fault)
