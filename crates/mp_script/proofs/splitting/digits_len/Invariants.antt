use Rattle.std.proofs.Common.{◌≡◌, Some, take}
use Rattle.mp_script.specs.Splitting.{digits_from}
use Rattle.mp_script.proofs.splitting.digits_len.Given as goal

abbrev pub invariant-loop-i : goal.invariant-loop-i
invariant-loop-i l = digits_from 0 (take l.i l.word) ≡ Some l.n
