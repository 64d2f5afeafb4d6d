use Rattle.std.proofs.Common.{◌≡◌, true, take}
use Rattle.mp_script.proofs.Pieces.{no_feed}
use Rattle.mp_script.proofs.splitting.behind_line.Given as goal

abbrev pub invariant-loop-i : goal.invariant-loop-i
invariant-loop-i l = no_feed (take l.i l.bytes) ≡ true
