use Rattle.std.proofs.Common.{◌≡◌, take}
use Rattle.mp_script.proofs.shapes.is_word.Given as goal

abbrev pub invariant-loop-i : goal.invariant-loop-i
invariant-loop-i l = take l.i l.w ≡ take l.i l.text
