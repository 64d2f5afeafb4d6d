use Rattle.std.proofs.Common.{◌≡◌, None, take}
use Rattle.mp_checks.specs.Checks.{first_fault, each_from}
use Rattle.mp_script.specs.Lines.{byte_checks}
use Rattle.mp_script.proofs.reading.check_bytes.Given as goal

abbrev pub invariant-loop-i : goal.invariant-loop-i
invariant-loop-i l = first_fault (each_from byte_checks 0 (take l.i l.bytes)) ≡ None
