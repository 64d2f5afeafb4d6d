use Rattle.std.proofs.Common.{◌≡◌, true, take}
use Rattle.std.specs.Prelude.{not}
use Rattle.std.specs.List.{list_all}
use Rattle.mp_script.specs.Splitting.{is_end}
use Rattle.mp_script.proofs.splitting.word_len.Given as goal

abbrev pub invariant-loop-i : goal.invariant-loop-i
invariant-loop-i l = list_all (λ b. not (is_end b)) (take l.i l.word) ≡ true
